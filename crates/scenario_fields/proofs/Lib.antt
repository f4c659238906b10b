pub mod Counts
pub mod Keys
pub mod Loops
pub mod Packing
pub mod Steps
