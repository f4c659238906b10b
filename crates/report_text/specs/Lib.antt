pub mod Pieces
pub mod Words
pub mod Text
pub mod Packed
pub mod Told
pub mod LineTexts
pub mod LinesRead
