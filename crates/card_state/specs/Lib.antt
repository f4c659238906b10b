pub mod Allowed
pub mod Change
pub mod Decisions
pub mod Encoding
pub mod Fits
pub mod Layout
pub mod Totals
pub mod Upgrade
