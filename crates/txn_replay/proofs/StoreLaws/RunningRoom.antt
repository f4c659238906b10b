-- The store of a purchase that runs is on, and has room.
-- So its capture can be added at its end, whatever comes between.
use Rattle.std.proofs.Common.{◌≡◌, ℕ, ◌≤◌, Bool, true, false, List, length, Option, Some, None, sym, ap, ◌∙◌, subst, arith}
use Rattle.std.specs.Prelude.{◌==◌, is_some}
use Rattle.capture_store.specs.Calls.{Call, list_found}
use Rattle.capture_store.specs.SeenLaneStore.{LaneStoreSeen, LaneStoreOn, count_of}
use Rattle.kernel.specs.Reply.{Reply}
use Rattle.txn_replay.specs.Part.{Part}
use Rattle.txn_replay.specs.Payment.{Payment}
use Rattle.txn_replay.specs.RunCard.{RunCardSeen}
use Rattle.txn_replay.specs.Standing.{StorePlace, StoreStands, LaneStoreFor, PartStands, HasRoomForCapture}
use Rattle.txn_replay.specs.Stored.{IsOpen, IsStored, StoredBy}
use Rattle.txn_replay.specs.declared.lane.Lane.{Lane}
use Rattle.txn_replay.proofs.StoreLaws.StoreFirst.{has_room}
use Rattle.txn_replay.proofs.StoreLaws.StoreOpen.{on_is, count_is}

pub running_room : (p : Payment) (lane : Lane) (lane_store : LaneStoreSeen) (run_card : RunCardSeen) (part : Part) (replies : List Reply) → PartStands p lane lane_store run_card part
    → part.lane.running ≡ Some replies → HasRoomForCapture lane_store p.durable
running_room p lane lane_store run_card part replies stands ran durable =
    (on_is lane_store part.lane.store p.planned.terminal_tear on, has_room (count_of lane_store) (omega (arith, few, count)) (ap (λ n. n == 7) count ∙ roomy))
  where
    stored : IsStored part.lane
    stored = subst (λ (b : Bool). StoredBy b part.lane) durable stands.stored

    is_open : IsOpen part.lane.store
    is_open = stored.clean (stored.opens (ap is_some ran))

    roomy : (length part.lane.store.list == 7) ≡ false
    roomy = sym (is_open.due stands.before) ∙ stored.room (ap is_some ran)

    few : length part.lane.store.list ≤ 7
    few = subst (λ (o : Option Call). length (list_found part.lane.store.list o true) ≤ 7) is_open.none (stored.few true)

    store_so : StoreStands lane_store part.lane p.planned.terminal_tear
    store_so = subst (λ (b : Bool). LaneStoreFor lane_store part.lane p.planned.terminal_tear b) durable stands.lane_store_is

    by : (commits : Option ℕ) → is_some commits ≡ true → StorePlace lane_store part.lane.store p.planned.terminal_tear commits
        → LaneStoreOn lane_store part.lane.store p.planned.terminal_tear
    by None some place = cc
    by (Some made) some place = place

    on : LaneStoreOn lane_store part.lane.store p.planned.terminal_tear
    on = by part.lane.store.commits (stored.opens (ap is_some ran)) store_so.place

    count : count_of lane_store ≡ length part.lane.store.list
    count = count_is lane_store part.lane.store p.planned.terminal_tear on
