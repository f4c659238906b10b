-- Lemmas on whole runs: what each event keeps, and how far a run goes.
pub mod CardsReached
pub mod LinesReached
pub mod FairRuns
pub mod FewEvents
pub mod TurnsEnd
pub mod SoundWorlds
pub mod OneRun
pub mod TruthValues
pub mod WorkedRows
pub mod SentGrows
pub mod DialectLines
pub mod LanesApart
pub mod EventsLead
