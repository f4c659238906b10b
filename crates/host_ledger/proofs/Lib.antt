pub mod Balances
pub mod Keys
pub mod Opening
pub mod Sums
pub mod Tables
