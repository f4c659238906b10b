pub mod LawsOfRules
pub mod Opening
pub mod Walk
pub mod Own
