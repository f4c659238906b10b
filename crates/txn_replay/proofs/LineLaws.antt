-- Lemmas on what the lines of a run tell.
pub mod RepliesTold
pub mod MessagesTold
pub mod NamesTold
pub mod SessionsTold
pub mod CommandsTold
pub mod LostPurchasesTold
