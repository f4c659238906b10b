pub mod Parity
pub mod Decimal
pub mod Master
pub mod Session
