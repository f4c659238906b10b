-- What holds of the stores in every world of a run, and of each while the settlement goes through them (this project's own).
use Rattle.std.specs.Prelude.{◌≡◌, ◌⊎◌, ◌==◌, ℕ, ◌-◌, ◌/◌, ◌≤◌, ◌<◌, Bool, true, false, is_some, List, [], length, take, drop, Some, None, unwrap_or}
use Rattle.capture_store.specs.Calls.{list_found}
use Rattle.capture_store.specs.StoreRow.{StoreRow, new_store}
use Rattle.report_text.specs.declared.line.Line.{Line}
use Rattle.scenario_plan.specs.Plan.{ScenarioData}
use Rattle.txn_replay.specs.Payment.{durable_of}
use Rattle.txn_replay.specs.Run.{RunPlace, Settling, Auditing, Finished, Reached, all_over}
use Rattle.txn_replay.specs.Steps.{settlements_from}
use Rattle.txn_replay.specs.World.{LaneRow, World, lane_at}

-- an open store has no lost call; before the settlement it is full exactly where its delivery is due
pub record IsOpen (store : StoreRow) : Type 0 where
  pub none : store.lost ≡ None
  pub due : store.found ≡ None → store.due ≡ (length store.list == 7)

-- whatever the next opening finds are at most seven messages; and a purchase runs with an open store that has room
pub record IsStored (row : LaneRow) : Type 0 where
  pub few : (found : Bool) → length (list_found row.store.list row.store.lost found) ≤ 7
  pub found_few : length (unwrap_or row.store.found []) ≤ 7
  pub clean : is_some row.store.commits ≡ true → IsOpen row.store
  pub opens : is_some row.running ≡ true → is_some row.store.commits ≡ true
  pub room : is_some row.running ≡ true → row.store.due ≡ false

-- a lane that doesn't keep its captures durably has no store
abbrev pub StoredBy : Bool → LaneRow → Type 0
StoredBy true row = IsStored row
StoredBy false row = row.store ≡ new_store

-- so for each lane; and only the settlement opens a store for good, when every purchase is over
pub record StoresStand (s : ScenarioData) (w : World) : Type 0 where
  pub lanes : (l : ℕ) → StoredBy (durable_of s l) (lane_at w l)
  pub before : (l : ℕ) → ((lane_at w l).store.found ≡ None) ⊎ (all_over s w ≡ true)

-- in every world of a run a store has at most seven messages, and room while a purchase runs
abbrev pub StoresAreKept : Type 0
StoresAreKept =
    (s : ScenarioData) (place : RunPlace) (n : ℕ) (choices : List Bool) (lines : List Line) (w : World)
    → Reached s place n choices lines w → StoresStand s w

-- before its place the settlement hasn't opened the store
pub record IsUnopened (store : StoreRow) : Type 0 where
  pub none : store.found ≡ None
  pub off : store.commits ≡ None

-- so many steps behind its opening, with so many copies of each message, what is left of what was found
pub record IsThrough (store : StoreRow) (copies steps : ℕ) : Type 0 where
  pub found : List (List ℕ)
  pub is : store.found ≡ Some found
  pub list : store.list ≡ drop (steps / copies) found
  pub on : is_some store.commits ≡ true
  pub none : store.lost ≡ None

-- the settlement has come to the step of number `k`; a lane's own steps begin behind those of the lanes before it
pub record IsSettledTo (s : ScenarioData) (w : World) (k : ℕ) : Type 0 where
  pub before : (l : ℕ) → durable_of s l ≡ true → k ≤ length (settlements_from s 0 (take l w.lanes)) → IsUnopened (lane_at w l).store
  pub behind : (l : ℕ) → durable_of s l ≡ true → length (settlements_from s 0 (take l w.lanes)) < k
      → IsThrough (lane_at w l).store s.copies (k - length (settlements_from s 0 (take l w.lanes)) - 1)

-- in every run the settlement goes through what each opening of a store has found, step by step
abbrev pub SettlementGoesThrough : Type 0
SettlementGoesThrough =
    (s : ScenarioData) (k n : ℕ) (choices : List Bool) (lines : List Line) (w : World)
    → 1 ≤ s.copies → Reached s (Settling k) n choices lines w → IsSettledTo s w k

-- behind the settlement nothing is left in a store, and no call is lost
pub record IsEmptied (store : StoreRow) : Type 0 where
  pub empty : store.list ≡ []
  pub none : store.lost ≡ None

-- in every run nothing is left in a store behind the settlement, and no call is lost
abbrev pub StoresAreEmptied : Type 0
StoresAreEmptied =
    (s : ScenarioData) (place : RunPlace) (n : ℕ) (choices : List Bool) (lines : List Line) (w : World) (l : ℕ)
    → durable_of s l ≡ true → 1 ≤ s.copies → Reached s place n choices lines w → (place ≡ Finished) ⊎ ((k : ℕ) × (place ≡ Auditing k))
    → IsEmptied (lane_at w l).store
