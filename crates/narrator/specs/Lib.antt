pub mod Filters
pub mod Selections
pub mod State
pub mod Terminals
pub mod Words
