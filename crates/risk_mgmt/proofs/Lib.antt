pub mod JudgingSteps
pub mod Rising
pub mod OwnBits
