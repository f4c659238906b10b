pub mod Coming
pub mod Numbers
pub mod Preamble
pub mod SoFar
pub mod Statuses
pub mod Talk
pub mod Turns
