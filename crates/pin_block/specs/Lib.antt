pub mod Block
pub mod Online
