pub mod EntryLemmas
pub mod TwoWalks
pub mod GatherBounds
pub mod GatherLaws
