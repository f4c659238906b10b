pub mod ReportSoFar
pub mod Statuses
pub mod Grammar
pub mod Reading
pub mod Taking
pub mod ToldLines
