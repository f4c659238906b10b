pub mod Carried
pub mod Delivery
pub mod Dialect
pub mod FaultWords
