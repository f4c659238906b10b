pub mod OwnBits
