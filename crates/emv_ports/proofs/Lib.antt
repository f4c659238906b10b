pub mod Cells
pub mod Growth
pub mod Known
pub mod PowerUp
pub mod Roughening
pub mod Settling
pub mod Blank
