mod AddUp
pub mod Apart
mod Once
