pub mod Coming
pub mod Names
pub mod Reading
pub mod Samples
pub mod Taking
