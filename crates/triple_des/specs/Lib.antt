pub mod Bits
pub mod Nibbles
pub mod Tables
pub mod Des
pub mod TripleDes
pub mod Mac
