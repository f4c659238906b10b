-- Lemmas on the audit, step by step.
pub mod AuditSteps
pub mod AuditNumbers
pub mod AuditWorlds
pub mod AuditOrder
pub mod AuditAtHand
pub mod AuditedCards
