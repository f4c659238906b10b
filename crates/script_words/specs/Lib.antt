pub mod MadeLength
pub mod Numeral
pub mod OrderWords
pub mod Script
pub mod Spelling
