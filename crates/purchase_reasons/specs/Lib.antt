pub mod Approval
pub mod Cards
pub mod Followed
pub mod Kept
pub mod Left
pub mod Reasons
