pub mod Cryptograms
