pub mod Canned
pub mod Desk
pub mod Document
pub mod SincePower
pub mod Top
pub mod TornText
pub mod Words
pub mod Notes
