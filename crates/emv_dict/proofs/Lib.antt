mod Amounts
pub mod FlagBits
pub mod HexDigits
pub mod PanFields
mod Searches
pub mod Steps
mod Unions
