pub mod Bits
pub mod Commands
pub mod Fields
pub mod Issuer
pub mod Leading
pub mod Objects
pub mod Results
pub mod Tracks
