pub mod Growing
pub mod Stages
pub mod Telling
