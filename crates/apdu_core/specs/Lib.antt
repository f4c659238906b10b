pub mod Command
pub mod Response
pub mod Seen
pub mod Status
