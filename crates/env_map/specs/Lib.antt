pub mod Entries
pub mod Gathered
pub mod Inside
pub mod Places
pub mod Put
