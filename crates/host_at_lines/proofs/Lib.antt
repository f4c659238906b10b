pub mod Numerals
pub mod Places
pub mod Serving
pub mod Standing
