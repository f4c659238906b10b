pub mod Commands
pub mod Gathering
pub mod Groups
pub mod Stages
pub mod Bounds
pub mod Room
