pub mod Closing
pub mod Lawful
pub mod Left
pub mod Spelling
