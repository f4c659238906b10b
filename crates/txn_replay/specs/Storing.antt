-- One exchange of a lane with its store: before a purchase begins the store is opened under the terminal's plan, and a full
-- one delivers its first message (this project's own).
use Rattle.std.specs.Prelude.{ℕ, zero, suc, ◌+◌, Bool, true, false, List, [], ◌∷◌, ◌++◌, length, replicate, Option, Some, None}
use Rattle.capture_store.specs.StoreRow.{StoreRow, is_next_cut, opened_to_add, delivered_by}
use Rattle.emv_ports.specs.Cut.{names_commit}
use Rattle.issuer_host.specs.History.{host_reply}
use Rattle.kernel.specs.Reply.{Reply}
use Rattle.report_text.specs.declared.line.Line.{Line}
use Rattle.report_text.specs.declared.line.Line.TheVariants.{EndLost}
use Rattle.txn_replay.specs.Lines.{settle_lines}
use Rattle.txn_replay.specs.Part.{Part, Moved, still, piece}
use Rattle.txn_replay.specs.Payment.{Payment}
use Rattle.txn_replay.specs.World.{Holder, LaneRow, with_store}

abbrev pub part_with : StoreRow → Part → Part
part_with store part = record part { lane = with_store store part.lane }

-- a purchase is lost before its card is powered up: it has ended without a record
abbrev pub lane_lost : LaneRow → LaneRow
lane_lost lane = record lane { ended = lane.ended ++ record { began = None; replies = []; end = None; lost = true } ∷ [] }

abbrev pub lost_with : Payment → Part → List Line → Moved
lost_with p part lines = record {
  part = record part { lane = lane_lost part.lane };
  lines = lines ++ EndLost p.lane (length part.lane.ended + 1) ∷ [];
  choices = 0;
}

-- so many copies of a message, behind these, come to the host one behind the other, each with its lines
abbrev pub copy_lines : Payment → List ℕ → List (List ℕ) → ℕ → List Line
copy_lines p message messages zero = []
copy_lines p message messages (suc n) =
    copy_lines p message messages n
    ++ settle_lines p.iso p.lane message (host_reply p.issuer p.accounts (messages ++ replicate n message) message)

abbrev pub lane_copied : Payment → List ℕ → LaneRow → LaneRow
lane_copied p message lane = record lane { sent = lane.sent ++ replicate p.copies message; store = delivered_by p.planned.terminal_tear lane.store }

-- it was sent and is dropped: its drop is made, or cut, with which the purchase is lost
abbrev pub copied : Payment → List ℕ → Part → Part
copied p message part = record { lane = lane_copied p message part.lane; card = part.card; messages = part.messages ++ replicate p.copies message }

abbrev pub dropped_by : Payment → Part → List Line → Bool → Moved
dropped_by p part lines true = lost_with p part lines
dropped_by p part lines false = record { part = part; lines = lines; choices = 0 }

abbrev pub delivers_first : Payment → Part → List (List ℕ) → Moved
delivers_first p part [] = still part
delivers_first p part (message ∷ others) =
    dropped_by p (copied p message part) (copy_lines p message part.messages p.copies) (is_next_cut p.planned.terminal_tear part.lane.store)

-- the first message is delivered so often as a settlement message is, and dropped
abbrev pub delivers : Payment → Part → Moved
delivers p part = delivers_first p part part.lane.store.list

-- what comes before a purchase: this exchange ends with it, or the purchase begins, behind the opening of its store or not
pub data Before : Type 0 where
  Ends : (moved : Moved) → Before
  Begins : (part : Part) → Before
  OpensAndBegins : (part : Part) → Before

-- a full store is delivered from first
abbrev pub opened_for : Part → Bool → Before
opened_for part true = Ends (record { part = part; lines = []; choices = 1 })
opened_for part false = OpensAndBegins part

-- the opening is cut, with which the purchase is lost and a lost call stays one, or it is completed
abbrev pub opens_by : Payment → Part → Bool → Bool → Before
opens_by p part one true = Ends (lost_with p part [])
opens_by p part one false = opened_for (part_with (opened_to_add part.lane.store one) part) (opened_to_add part.lane.store one).due

-- an open store delivers where that is due
abbrev pub goes_through : Payment → Part → Bool → Before
goes_through p part true = Ends (delivers p part)
goes_through p part false = Begins part

abbrev pub stored_by : Payment → Part → Bool → Option ℕ → Before
stored_by p part one None = opens_by p part one (names_commit p.planned.terminal_tear 0)
stored_by p part one (Some made) = goes_through p part part.lane.store.due

-- nothing happens while another purchase has the card
abbrev pub free_by : Payment → Part → Bool → Option Holder → Before
free_by p part one None = stored_by p part one part.lane.store.commits
free_by p part one (Some holder) = Ends (still part)

-- a purchase that runs goes on
abbrev pub runs_by : Payment → Part → Bool → Option (List Reply) → Before
runs_by p part one None = free_by p part one part.card.holder
runs_by p part one (Some replies) = Begins part

abbrev pub before_by : Payment → Part → Bool → Bool → Before
before_by p part one false = Begins part
before_by p part one true = runs_by p part one part.lane.running

abbrev pub before_purchase : Payment → Part → Bool → Before
before_purchase p part one = before_by p part one p.durable

-- one truth value more was taken, before the others
abbrev pub more_chosen : Moved → Moved
more_chosen moved = record moved { choices = moved.choices + 1 }

abbrev pub moved_behind : Payment → Bool → Bool → Before → Moved
moved_behind p one other (Ends moved) = moved
moved_behind p one other (Begins part) = piece p part one
moved_behind p one other (OpensAndBegins part) = more_chosen (piece p part other)

-- one exchange of the lane, with the truth values of its store's opening and of its card's power-up, in this order
abbrev pub lane_piece : Payment → Part → Bool → Bool → Moved
lane_piece p part one other = moved_behind p one other (before_purchase p part one)
