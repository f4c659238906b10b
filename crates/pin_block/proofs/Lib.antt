mod Blocks
mod OnlineLemmas
mod Packing
mod Reading
