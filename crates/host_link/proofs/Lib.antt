mod Apart
pub mod Again
pub mod Short
