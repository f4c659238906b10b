pub mod Cards
pub mod Fields
pub mod Iso
pub mod Messages
pub mod Objects
pub mod Powers
