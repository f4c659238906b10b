pub mod Asked
pub mod Counters
pub mod Judging
pub mod Laws
pub mod Risky
pub mod Selected
