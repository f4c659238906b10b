pub mod StepResults
pub mod Terminal
pub mod Scripts
pub mod Table
