pub mod Bounds
pub mod Ranks
pub mod Turns
pub mod Chains
pub mod Order
pub mod Names
pub mod Lists
