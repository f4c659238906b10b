pub mod Cards
pub mod Lanes
pub mod Plan
pub mod Purchases
