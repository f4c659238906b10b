pub mod Apart
pub mod BookedOnce
