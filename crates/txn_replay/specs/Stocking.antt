-- What becomes of a store as a purchase's capture joins it.
use Rattle.std.specs.Prelude.{◌≡◌, ◌≢◌, ℕ, Bool, true, false, slice_index, List, Option, IfSome}
use Rattle.capture_store.specs.SeenLaneStore.{LaneStoreSeen, LaneStoreOn, LaneStoreOff, store_losses}
use Rattle.capture_store.specs.StoreRow.{StoreRow, ended_by}
use Rattle.emv_ports.specs.Causes.{one_more}
use Rattle.emv_ports.specs.declared.tear.Tear.{Tear}
use Rattle.txn_replay.specs.Part.{loses_by}
use Rattle.txn_replay.specs.declared.lane.Outcome.{Outcome}
use Rattle.txn_replay.specs.declared.lane.Outcome.TheVariants.{Told, Lost}

-- what is captured is no request
abbrev pub IsNoRequest : Option (List ℕ) → Type 0
IsNoRequest capture = IfSome capture (λ message. slice_index message 0 ≢ 0xE1)

abbrev pub is_lost : Outcome → Bool
is_lost Told = false
is_lost Lost = true

-- how often the power was lost behind it
abbrev pub losses_by_outcome : Outcome → ℕ → ℕ
losses_by_outcome Told losses = losses
losses_by_outcome Lost losses = one_more losses

-- the capture has joined the messages, or the plan has cut that; either way the store is off
pub record IsStoredBy (old new : LaneStoreSeen) (plan : Option Tear) (capture : Option (List ℕ)) (outcome : Outcome) : Type 0 where
  pub off : (row : StoreRow) → LaneStoreOn old row plan → LaneStoreOff new (ended_by plan row capture)
  pub told : (row : StoreRow) → LaneStoreOn old row plan → is_lost outcome ≡ loses_by plan row capture
  pub losses : store_losses new ≡ losses_by_outcome outcome (store_losses old)
