-- Lemmas on a turn, by the values of a run and the world that they stand for.
pub mod WorldTold
pub mod TurnWorlds
pub mod TurnIdle
pub mod TurnAtHand
pub mod FirstValue
pub mod AllDone
