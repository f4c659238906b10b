pub mod Digits
pub mod Packing
mod Fronts
mod Counters
mod Endings
mod Parts
mod Flat
mod Marks
mod LineLaws
mod Splitting
mod EndingsBack
mod OneLine
mod LinesBack
