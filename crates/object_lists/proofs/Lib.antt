pub mod DolReading
pub mod DolSpelling
pub mod EntryPlaces
pub mod FormLemmas
