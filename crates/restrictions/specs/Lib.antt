pub mod Laws
pub mod Restricted
pub mod Usage
