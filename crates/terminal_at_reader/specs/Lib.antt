pub mod Document
pub mod Hearing
pub mod Settlement
pub mod Talk
pub mod Till
pub mod Top
