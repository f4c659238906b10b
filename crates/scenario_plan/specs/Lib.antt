pub mod Cards
pub mod Plan
pub mod SeenCards
