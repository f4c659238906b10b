pub mod Cards
pub mod Kept
pub mod Lanes
pub mod Numbered
pub mod Numbers
mod Purchases
