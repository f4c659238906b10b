pub mod Asked
pub mod Laws
pub mod Leading
pub mod Only
pub mod Ran
pub mod Script
