pub mod DecisionText
pub mod ReasonText
pub mod StateText
