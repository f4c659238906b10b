pub mod OddBytes
pub mod TwoBlocks
pub mod DecimalLists
pub mod BehindZeros
