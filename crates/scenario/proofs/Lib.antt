pub mod AccountLoop
pub mod Apart
pub mod Behind
pub mod CardNames
pub mod CardParts
pub mod Listed
pub mod Loops
