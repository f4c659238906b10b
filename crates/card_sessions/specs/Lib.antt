pub mod SessionPhase
pub mod Tried
