-- What comes before a purchase, and the exchange that it is part of.
-- While its store is on, the plan of the purchase is the one under which its commits are made.
use Rattle.std.proofs.Common.{◌≡◌, ℕ, Bool, true, false, List, length, Option, Some, None, refl, sym, ap, ◌∙◌}
use Rattle.capture_store.specs.SeenLaneStore.{LaneStoreSeen, LaneStoreOn, LaneStoreOff, has_power, count_of}
use Rattle.capture_store.specs.StoreRow.{StoreRow}
use Rattle.card_state.specs.Decisions.{Decided}
use Rattle.emv_ports.specs.declared.tear.Tear.{Tear}
use Rattle.kernel.specs.Reply.{Reply}
use Rattle.txn_replay.specs.Part.{Part, piece}
use Rattle.txn_replay.specs.Payment.{Payment}
use Rattle.txn_replay.specs.Standing.{LaneStoreFor, StorePlace, LaneStoreStands}
use Rattle.txn_replay.specs.Storing.{runs_by, before_by, moved_behind, lane_piece}
use Rattle.txn_replay.specs.World.{LaneRow}

-- a purchase that runs goes on, whatever its store is
pub runs_through : (p : Payment) (part : Part) (one other : Bool) (replies : List Reply) → part.lane.running ≡ Some replies
    → lane_piece p part one other ≡ piece p part one
runs_through p part one other replies ran = by p.durable
  where
    by : (durable : Bool) → moved_behind p one other (before_by p part one durable) ≡ piece p part one
    by false = refl
    by true = ap (λ (o : Option (List Reply)). moved_behind p one other (runs_by p part one o)) ran

-- a store that is on, by its row, and one that is off
pub on_is : (lane_store : LaneStoreSeen) (store : StoreRow) (plan : Option Tear) → LaneStoreOn lane_store store plan → has_power lane_store ≡ true
on_is None store plan on = absurd on
on_is (Some seen) store plan on = on.on

pub off_is : (lane_store : LaneStoreSeen) (store : StoreRow) → LaneStoreOff lane_store store → has_power lane_store ≡ false
off_is None store off = absurd off
off_is (Some seen) store off = off.off

pub place_on : (lane_store : LaneStoreSeen) (store : StoreRow) (plan : Option Tear) (commits : Option ℕ) → StorePlace lane_store store plan commits → has_power lane_store ≡ true
    → LaneStoreOn lane_store store plan
place_on lane_store store plan None off on = (let no : true ≡ false = sym on ∙ off_is lane_store store off in cc)
place_on lane_store store plan (Some made) place on = place

pub place_off : (lane_store : LaneStoreSeen) (store : StoreRow) (plan : Option Tear) (commits : Option ℕ) → StorePlace lane_store store plan commits → has_power lane_store ≡ false
    → LaneStoreOff lane_store store
place_off lane_store store plan None place off = place
place_off lane_store store plan (Some made) on off = (let no : true ≡ false = sym (on_is lane_store store plan on) ∙ off in cc)

-- a store stands for its row, whatever was found, said and sent beside it
pub lane_store_with : (lane_store : LaneStoreSeen) (p : Payment) (row : LaneRow) (running : Option (List Reply)) (began : Option (List Decided)) (sent : List (List ℕ))
    → LaneStoreStands lane_store p row → LaneStoreStands lane_store p (record row { running = running; began = began; sent = sent })
lane_store_with lane_store p row running began sent = by p.durable
  where
    by : (durable : Bool) → LaneStoreFor lane_store row p.planned.terminal_tear durable
        → LaneStoreFor lane_store (record row { running = running; began = began; sent = sent }) p.planned.terminal_tear durable
    by false none = none
    by true own = record { place = own.place; losses = own.losses }

-- how many messages are in it
pub count_is : (lane_store : LaneStoreSeen) (store : StoreRow) (plan : Option Tear) → LaneStoreOn lane_store store plan → count_of lane_store ≡ length store.list
count_is None store plan on = absurd on
count_is (Some seen) store plan on = ap length on.list_is
