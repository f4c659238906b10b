pub mod Entries
pub mod Fronts
pub mod Tracing
pub mod Turning
