pub mod Ac
pub mod Authenticate
pub mod Captures
pub mod Generate
pub mod Laws
pub mod Request
pub mod SeenAc
pub mod TerminalData
