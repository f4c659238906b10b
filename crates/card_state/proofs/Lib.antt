pub mod AllowedLemmas
mod Appended
mod Applied
mod Apps
mod Bytes
pub mod CardLemmas
pub mod Decoded
pub mod Encodable
pub mod LayoutLemmas
mod Pushes
pub mod ShortLogs
pub mod TotalsLemmas
pub mod Unused
pub mod UpgradeLemmas
