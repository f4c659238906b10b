pub mod Beginning
pub mod Courses
pub mod Left
pub mod Following
pub mod Analysing
pub mod Taking
pub mod NextOf
pub mod Showing
pub mod Opened
pub mod Finishing
mod Deciding
mod Requested
mod Scripting
mod Keeping
mod Hearing
mod Leaving
mod Took
mod Falling
mod Growing
mod Instructions
mod Turning
pub mod Telling
mod Restricting
mod Uncaptured
mod Belonging
mod InTransaction
