pub mod Kept
pub mod Rows
pub mod Entering
pub mod Stepping
pub mod Going
pub mod Chains
