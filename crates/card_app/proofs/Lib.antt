mod Allowing
mod Continuing
mod Explaining
mod ShortIn
mod ComparingLemmas
mod Formats
mod PowerUps
mod Stands
pub mod Steps
pub mod Showing
