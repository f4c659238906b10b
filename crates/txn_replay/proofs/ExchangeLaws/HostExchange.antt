-- An exchange with the host: the terminal goes on with the reply that comes back, or with silence.
-- The message stands in the lane's row and with the host, as its link has it.
use Rattle.std.proofs.Common.{◌≡◌, ℕ, Bool, true, false, List, [], ◌∷◌, ◌++◌, Option, Some, None, refl, ap, ◌∙◌}
use Rattle.std.specs.Prelude.{option_map}
use Rattle.std.proofs.lemmas.List.Elements.{All-push}
use Rattle.std.proofs.lemmas.Option.{same_Some}
use Rattle.auth_message.specs.Whole.{IsMessage}
use Rattle.capture_store.specs.SeenLaneStore.{LaneStoreSeen}
use Rattle.host_link.specs.Delivery.{reply_if}
use Rattle.kernel.specs.Ended.{EndData}
use Rattle.kernel.specs.Reply.{Reply}
use Rattle.report_text.specs.declared.line.Line.{Line}
use Rattle.txn_replay.specs.Part.{Part, ended_if_over, ended_by_record, sending}
use Rattle.txn_replay.specs.Payment.{Payment, end_at}
use Rattle.txn_replay.specs.RunCard.{RunCardSeen}
use Rattle.txn_replay.specs.Standing.{LaneStands, PartRuns}
use Rattle.txn_replay.specs.World.{LaneRow, with_sent}
use Rattle.txn_replay.specs.declared.lane.Lane.{Lane}
use Rattle.txn_replay.proofs.StoreLaws.StoreOpen.{lane_store_with}

-- the messages that it made are those that the host reads
pub stands_sent : (p : Payment) (lane : Lane) (row : LaneRow) (message : List ℕ) (running : Option (List Reply))
    → IsMessage message → LaneStands lane p (record row { running = running }) → LaneStands lane p (record (with_sent message row) { running = running })
stands_sent p lane row message running is stands = record {
  keeps = record {
    ended = stands.keeps.ended;
    log = stands.keeps.log;
    amounts = stands.keeps.amounts;
    captures = stands.keeps.captures;
    messages = stands.keeps.messages;
    sent = All-push IsMessage row.sent message stands.keeps.sent is;
    stored = stands.keeps.stored;
    found = stands.keeps.found;
    card = stands.keeps.card;
    ending = stands.keeps.ending;
  };
  running = stands.running;
}

pub heard_on : (p : Payment) (lane later : Lane) (lane_store : LaneStoreSeen) (run_card : RunCardSeen) (replies more : List Reply) (part : Part) (message : List ℕ)
    → PartRuns p lane lane_store run_card replies part → LaneStands later p (record (with_sent message part.lane) { running = Some more })
    → PartRuns p later lane_store run_card more (sending p message part)
heard_on p lane later lane_store run_card replies more part message runs stands = record {
  lane_is = stands;
  lane_store_is = lane_store_with lane_store p part.lane part.lane.running part.lane.began (part.lane.sent ++ message ∷ []) runs.lane_store_is;
  holder = runs.holder;
  has = runs.has;
  on = runs.on;
  is = runs.is;
  losses = runs.losses;
}

pub settled_messages : (p : Payment) (replies : List Reply) (part : Part) (lines : List Line) → (ended_if_over p replies part lines).part.messages ≡ part.messages
settled_messages p replies part lines = by (end_at p replies)
  where
    by : (e : Option EndData) → (ended_by_record p replies part lines e).part.messages ≡ part.messages
    by None = refl
    by (Some end) = refl

-- a reply that came back, as it stood on the wire
pub came_back : (comes : Bool) (reply wire expected : List ℕ) (spelling : List ℕ → List ℕ) → reply_if comes reply ≡ Some expected
    → reply_if comes wire ≡ option_map spelling (reply_if comes reply) → wire ≡ spelling expected
came_back true reply wire expected spelling is shown = same_Some wire (spelling expected) (shown ∙ ap (option_map spelling) is)
came_back false reply wire expected spelling is shown = cc
