mod ControlItems
mod FaultLemmas
mod Keeping
mod NameLemmas
mod OpeningLemmas
pub mod OwnNames
mod PinLemmas
pub mod Records
mod SizeLemmas
