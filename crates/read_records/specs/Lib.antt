pub mod Afl
pub mod DataRead
pub mod Leading
pub mod Options
pub mod Records
pub mod SeenOptions
pub mod SeenFault
pub mod Stepping
