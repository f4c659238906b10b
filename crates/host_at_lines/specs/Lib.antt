pub mod Because
pub mod Calls
pub mod Document
pub mod Talk
pub mod Told
pub mod Top
pub mod Words
