pub mod CannedTalks
pub mod Serving
pub mod Sides
pub mod SinceTold
