pub mod Fault
pub mod Fields
pub mod Line
pub mod TablePaths
pub mod Value
