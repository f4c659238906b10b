pub mod Answers
pub mod Because
pub mod Commands
pub mod Kinds
pub mod Lanes
pub mod Learned
pub mod Torn
