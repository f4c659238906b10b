-- A lane's store in its place, or a place that has none, and the row of the world that it stands for.
use Rattle.std.specs.Prelude.{◌≡◌, ℕ, Bool, true, false, List, length, Option, Some, None, option_map}
use Rattle.emv_ports.specs.declared.tear.Tear.{Tear}
use Rattle.capture_store.specs.Calls.{Call}
use Rattle.capture_store.specs.ListPages.{MayStandForList}
use Rattle.capture_store.specs.SeenCaptureList.{CaptureListSeen}
use Rattle.capture_store.specs.Spelling.{IsList}
use Rattle.capture_store.specs.StoreRow.{StoreRow}
use Rattle.emv_ports.specs.Cut.{commit_of}

abbrev pub LaneStoreSeen : Type 0
LaneStoreSeen = Option CaptureListSeen

-- on under this plan, with this list and so many commits since the opening, and no lost call
pub record CaptureListOn (seen : CaptureListSeen) (list : List (List ℕ)) (lost : Option Call) (commits : Option ℕ) (plan : Option Tear) : Type 0 where
  pub on : seen.memory.on ≡ true
  pub list_is : seen.list ≡ list
  pub fits : IsList list
  pub none : lost ≡ None
  pub commit_is : option_map commit_of commits ≡ Some seen.memory.commit
  pub plan_is : seen.memory.plan ≡ plan

-- off, and its pages may stand for this list and lost call
pub record CaptureListOff (seen : CaptureListSeen) (list : List (List ℕ)) (lost : Option Call) (commits : Option ℕ) : Type 0 where
  pub off : seen.memory.on ≡ false
  pub may : MayStandForList seen.memory.cells list lost
  pub none : commits ≡ None

-- the place of a store stands for this row, on under this plan; a place without a store stands for none
abbrev pub LaneStoreOn : LaneStoreSeen → StoreRow → Option Tear → Type 0
LaneStoreOn None row plan = ⊥
LaneStoreOn (Some seen) row plan = CaptureListOn seen row.list row.lost row.commits plan

-- the place of a store stands for this row, off; a place without a store stands for none
abbrev pub LaneStoreOff : LaneStoreSeen → StoreRow → Type 0
LaneStoreOff None row = ⊥
LaneStoreOff (Some seen) row = CaptureListOff seen row.list row.lost row.commits

-- off, for some row
abbrev pub IsLaneStoreOff : LaneStoreSeen → Type 0
IsLaneStoreOff seen = (row : StoreRow) × LaneStoreOff seen row

-- whether there is a store that is on
abbrev pub has_power : LaneStoreSeen → Bool
has_power None = false
has_power (Some seen) = seen.memory.on

-- how many messages it holds while it is on
abbrev pub count_of : LaneStoreSeen → ℕ
count_of None = 0
count_of (Some seen) = length seen.list

-- how often its power was lost
abbrev pub store_losses : LaneStoreSeen → ℕ
store_losses None = 0
store_losses (Some seen) = seen.memory.losses

-- it is on, and its power was lost as often as before
pub record StaysOpen (old new : LaneStoreSeen) : Type 0 where
  pub on : has_power new ≡ true
  pub losses : store_losses new ≡ store_losses old
