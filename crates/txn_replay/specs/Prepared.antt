-- What comes before a purchase, as the values of a run have it.
use Rattle.std.specs.Prelude.{◌≡◌, Bool, true, false, List, None}
use Rattle.capture_store.specs.SeenLaneStore.{LaneStoreSeen}
use Rattle.issuer_host.specs.History.{HostData, HostStands}
use Rattle.report_text.specs.declared.line.Line.{Line}
use Rattle.txn_replay.specs.Part.{Part, Moved}
use Rattle.txn_replay.specs.Payment.{Payment}
use Rattle.txn_replay.specs.Standing.{LaneKeeps, LaneStoreStands, MayBegin}
use Rattle.txn_replay.specs.Stored.{StoredBy}
use Rattle.txn_replay.specs.Storing.{Before, Ends, Begins, OpensAndBegins}
use Rattle.txn_replay.specs.declared.lane.Lane.{Lane}

-- no purchase runs, and none has the card of the next one
pub record StoreRests (p : Payment) (lane : Lane) (lane_store : LaneStoreSeen) (part : Part) : Type 0 where
  pub keeps : LaneKeeps lane part.lane
  pub lane_store_is : LaneStoreStands lane_store p part.lane
  pub stored : StoredBy p.durable part.lane
  pub before : part.lane.store.found ≡ None
  pub rests : part.lane.running ≡ None
  pub begins : MayBegin lane
  pub free : part.card.holder ≡ None

-- this exchange has ended so
pub record IsEnded (p : Payment) (lane : Lane) (lane_store : LaneStoreSeen) (host : HostData) (lines : List Line) (m : Moved) : Type 0 where
  pub keeps : LaneKeeps lane m.part.lane
  pub lane_store_is : LaneStoreStands lane_store p m.part.lane
  pub messages : HostStands host m.part.messages
  pub lines_are : lines ≡ m.lines

-- the purchase begins on these
pub record IsPrepared (p : Payment) (lane : Lane) (lane_store : LaneStoreSeen) (host : HostData) (part : Part) : Type 0 where
  pub keeps : LaneKeeps lane part.lane
  pub lane_store_is : LaneStoreStands lane_store p part.lane
  pub messages : HostStands host part.messages

abbrev pub PreparedBy : Payment → Lane → LaneStoreSeen → HostData → List Line → Bool → Before → Type 0
PreparedBy p lane lane_store host lines false (Ends moved) = IsEnded p lane lane_store host lines moved
PreparedBy p lane lane_store host lines true (Begins part) = IsPrepared p lane lane_store host part
PreparedBy p lane lane_store host lines true (OpensAndBegins part) = IsPrepared p lane lane_store host part
PreparedBy p lane lane_store host lines false (Begins part) = ⊥
PreparedBy p lane lane_store host lines false (OpensAndBegins part) = ⊥
PreparedBy p lane lane_store host lines true (Ends moved) = ⊥
