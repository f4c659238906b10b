-- From what a call makes of a list to what it makes of the row of a lane's store.
use Rattle.std.proofs.Common.{◌≡◌, Bool, true, Option, Some, refl, ap, sym, subst}
use Rattle.emv_ports.specs.declared.tear.Tear.{Tear}
use Rattle.capture_store.specs.Calls.{list_found}
use Rattle.capture_store.specs.SeenCaptureList.{CaptureListSeen}
use Rattle.capture_store.specs.SeenLaneStore.{LaneStoreSeen, CaptureListOn, CaptureListOff, LaneStoreOff}
use Rattle.capture_store.specs.Spelling.{IsList}
use Rattle.capture_store.specs.StoreRow.{StoreRow, store_opened}

-- a store that was opened
pub opened_on : (new : CaptureListSeen) (row : StoreRow) (plan : Option Tear) (found : Bool) → new.list ≡ list_found row.list row.lost found → IsList new.list
    → new.memory.on ≡ true → new.memory.commit ≡ 0 → new.memory.plan ≡ plan
    → CaptureListOn new (store_opened row found).list (store_opened row found).lost (store_opened row found).commits plan
opened_on new row plan found list fits on commit planned = record {
  on = on;
  list_is = list;
  fits = subst IsList list fits;
  none = refl;
  commit_is = ap (λ n. Some n) (sym commit);
  plan_is = planned;
}

-- what a lane's store that is there and off has
pub off_there : (seen : LaneStoreSeen) (there : CaptureListSeen) (row : StoreRow) → seen ≡ Some there → LaneStoreOff seen row → CaptureListOff there row.list row.lost row.commits
off_there seen there row is off = subst (λ (s : LaneStoreSeen). LaneStoreOff s row) is off
