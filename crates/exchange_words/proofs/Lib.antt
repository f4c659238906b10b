pub mod Asking
pub mod Deep
pub mod Pins
pub mod Samples
pub mod Scripts
pub mod Unanswered
