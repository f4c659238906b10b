-- Lemmas on the settlement, step by step.
pub mod SettlementSteps
pub mod SettlementPlaces
pub mod SettlementOfLane
pub mod SettlementWorlds
pub mod SettlementAtHand
