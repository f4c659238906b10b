pub mod Conversion
pub mod Layout
pub mod Recovery
pub mod Store
pub mod Writing
pub mod Placed
pub mod Lending
