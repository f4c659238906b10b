pub mod Analysed
pub mod TerminalKinds
