mod Form
pub mod Bounds
mod Stages
mod Templates
