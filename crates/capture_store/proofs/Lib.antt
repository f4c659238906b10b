mod Cutting
mod Entries
mod Finding
mod Fits
mod Rowing
pub mod Sendings
mod Waits
