pub mod Decided
pub mod Judged
pub mod Reasons
pub mod Top
pub mod Verdicts
