-- A step of the settlement as the values of a run have it.
use Rattle.std.specs.Prelude.{◌≡◌, ⊤, ℕ, ◌+◌, ◌*◌, ◌-◌, ◌/◌, ◌%◌, ◌==◌, ◌≤◌, Bool, true, false, List, length, slice_get, Option, Some, None, unwrap_or}
use Rattle.txn_replay.specs.Standing.{LaneKeeps}
use Rattle.txn_replay.specs.Steps.{Settlement, Opens, Sends}
use Rattle.txn_replay.specs.World.{LaneRow}
use Rattle.txn_replay.specs.declared.lane.Lane.{Lane}
use Rattle.txn_replay.specs.declared.settlement.Settling.{Settling}
use Rattle.txn_replay.specs.declared.settlement.Settling.TheVariants as settling

-- lanes and what they keep
pub record LanesKeep (lanes : List Lane) (rows : List LaneRow) : Type 0 where
  pub count : length lanes ≡ length rows
  pub keeps : (l : ℕ) (lane : Lane) (row : LaneRow) → slice_get lanes l ≡ Some lane → slice_get rows l ≡ Some row → LaneKeeps lane row

abbrev pub steps_of : Lane → Bool → ℕ → ℕ
steps_of lane false copies = length lane.captures.messages * copies
steps_of lane true copies = 1 + unwrap_or lane.found 0 * copies

-- the step of this number among a lane's own; a message that is sent has at most 2,048 bytes
abbrev pub step_in : Lane → ℕ → Bool → ℕ → ℕ → Settling → Type 0
step_in lane index false copies number (settling.Sends at message) =
    (at ≡ index) × (slice_get lane.captures.messages (number / copies) ≡ Some message.now) × (length message.now ≤ 2048)
step_in lane index false copies number other = ⊥
step_in lane index true copies number (settling.Opens at) = (at ≡ index) × (number ≡ 0)
step_in lane index true copies number (settling.Drains at drops) = (at ≡ index) × (1 + (number - 1) ≡ number) × (drops ≡ (number % copies == 0))
step_in lane index true copies number (settling.Sends at message) = ⊥

-- the same step, of a lane that keeps its captures durably or not; which message a store sends, the store knows
abbrev pub IsStep : (ℕ → Bool) → Settlement → Settling → Type 0
IsStep durable (Opens l) (settling.Opens lane) = l ≡ lane
IsStep durable (Opens l) other = ⊥
IsStep durable (Sends l message drops) (settling.Opens lane) = ⊥
IsStep durable (Sends l message drops) (settling.Sends lane sent) = (l ≡ lane) × (message ≡ sent.now) × (drops ≡ false) × (durable l ≡ false) × (length sent.now ≤ 2048)
IsStep durable (Sends l message drops) (settling.Drains lane last) = (l ≡ lane) × (drops ≡ last) × (durable l ≡ true)

abbrev pub IsStepOf : (ℕ → Bool) → Option Settlement → Option Settling → Type 0
IsStepOf durable None None = ⊤
IsStepOf durable (Some step) (Some found) = IsStep durable step found
IsStepOf durable None (Some found) = ⊥
IsStepOf durable (Some step) None = ⊥
