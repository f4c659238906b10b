-- The events of a run: an exchange of a lane, a step of the settlement, a step of the audit (this project's own).
use Rattle.std.specs.Prelude.{◌≡◌, ℕ, ◌+◌, ◌-◌, Bool, true, false, if◌then◌else◌, List, [], ◌∷◌, ◌++◌, length, flat_map, replicate, slice_get, slice_index_or, slice_set, Option, Some, None, unwrap_or}
use Rattle.app_select.specs.Said.{select_command}
use Rattle.capture_store.specs.Calls.{Drops}
use Rattle.capture_store.specs.StoreRow.{StoreRow, opened_to_settle, made_call}
use Rattle.card_app.specs.Answering.{card_answer}
use Rattle.card_files.specs.Views.{AppData}
use Rattle.card_app.specs.Pages.{found_of}
use Rattle.card_app.specs.PageReplies.{CardAnswer}
use Rattle.issuer_host.specs.History.{host_reply}
use Rattle.report_text.specs.declared.line.Line.{Line}
use Rattle.risk_mgmt.specs.Counters.{counter_tag, last_online_tag, get_data}
use Rattle.scenario_plan.specs.Cards.{CardData}
use Rattle.scenario_plan.specs.Plan.{ScenarioData}
use Rattle.txn_replay.specs.Changes.{powered, exchanged}
use Rattle.txn_replay.specs.Lines.{settle_lines, audit_power_line, audit_lines}
use Rattle.txn_replay.specs.Part.{Part, Moved}
use Rattle.txn_replay.specs.Payment.{Payment, next_of, dialect_of, durable_of}
use Rattle.txn_replay.specs.Storing.{lane_piece}
use Rattle.txn_replay.specs.World.{CardRow, LaneRow, World, card_at, lane_at, with_sent, with_store}
use Rattle.txn_replay.specs.declared.event.Event.{Event}
use Rattle.txn_replay.specs.declared.event.Event.TheVariants.{Turn, Settle, Audit}

-- the world behind an event, the event's lines, and how many truth values it took
pub record After : Type 0 where
  pub world : World
  pub lines : List Line
  pub choices : ℕ

abbrev pub no_event : World → After
no_event w = record { world = w; lines = []; choices = 0 }

-- what a lane's exchange touches
abbrev pub part_of : World → ℕ → ℕ → Part
part_of w l i = record { lane = lane_at w l; card = card_at w i; messages = w.messages }

abbrev pub lane_moved : World → ℕ → ℕ → Moved → After
lane_moved w l i m = record {
  world = record { cards = slice_set w.cards i m.part.card; lanes = slice_set w.lanes l m.part.lane; messages = m.part.messages };
  lines = m.lines;
  choices = m.choices;
}

-- the truth value of this number among those that an event takes: a store's comes before a card's
abbrev pub choice_in : List Bool → ℕ → Bool
choice_in choices n = slice_index_or choices n false

-- nothing happens where no purchase is left
abbrev pub turned_by : World → ℕ → List Bool → Option Payment → After
turned_by w l choices None = no_event w
turned_by w l choices (Some p) = lane_moved w l p.planned.card (lane_piece p (part_of w l p.planned.card) (choice_in choices 0) (choice_in choices 1))

abbrev pub turned : ScenarioData → World → ℕ → List Bool → After
turned s w l choices = turned_by w l choices (next_of s w l)

-- a step of the settlement: a lane's store is opened without a plan, or a message of a lane is sent, which its store drops
-- behind the last copy
pub data Settlement : Type 0 where
  Opens : (lane : ℕ) → Settlement
  Sends : (lane : ℕ) → (message : List ℕ) → (drops : Bool) → Settlement

-- a message in so many copies, and one that is dropped behind the last of them
abbrev pub copies_of : ℕ → ℕ → List ℕ → List Settlement
copies_of copies l message = replicate copies (Sends l message false)

abbrev pub dropped_copies : ℕ → ℕ → List ℕ → List Settlement
dropped_copies copies l message = replicate (copies - 1) (Sends l message false) ++ Sends l message true ∷ []

-- those of a lane: of its captures, or of what the opening of its store has found
abbrev pub lane_settlements : ℕ → ℕ → LaneRow → Bool → List Settlement
lane_settlements copies l lane false = flat_map (copies_of copies l) lane.captures
lane_settlements copies l lane true = Opens l ∷ flat_map (dropped_copies copies l) (unwrap_or lane.store.found [])

-- those of lanes, the first of which has this number
unfoldable pub settlements_from : ScenarioData → ℕ → List LaneRow → List Settlement
settlements_from s l [] = []
settlements_from s l (lane ∷ lanes) = lane_settlements s.copies l lane (durable_of s l) ++ settlements_from s (l + 1) lanes

-- by lane, then by purchase
abbrev pub settlements : ScenarioData → World → List Settlement
settlements s w = settlements_from s 0 w.lanes

abbrev pub with_lane : World → ℕ → LaneRow → World
with_lane w l lane = record w { lanes = slice_set w.lanes l lane }

-- a store is opened, which takes a truth value whatever it holds
abbrev pub opens_to_settle : World → ℕ → Bool → After
opens_to_settle w l choice = record {
  world = with_lane w l (with_store (opened_to_settle (lane_at w l).store choice) (lane_at w l));
  lines = [];
  choices = 1;
}

-- a store behind the delivery of its first message, and the lane of a delivered one
abbrev pub settled_store : Bool → StoreRow → StoreRow
settled_store drops store = (if drops then made_call store Drops else store)

abbrev pub lane_settled : List ℕ → Bool → LaneRow → LaneRow
lane_settled message drops lane = with_store (settled_store drops lane.store) (with_sent message lane)

-- a message is delivered once
abbrev pub settled_with : Bool → World → ℕ → List ℕ → Bool → List ℕ → After
settled_with iso w l message drops reply = record {
  world = record {
    cards = w.cards;
    lanes = slice_set w.lanes l (lane_settled message drops (lane_at w l));
    messages = w.messages ++ message ∷ [];
  };
  lines = settle_lines iso l message reply;
  choices = 0;
}

abbrev pub settles : ScenarioData → World → List Bool → Option Settlement → After
settles s w choices None = no_event w
settles s w choices (Some (Opens l)) = opens_to_settle w l (choice_in choices 0)
settles s w choices (Some (Sends l message drops)) =
    settled_with (dialect_of s l) w l message drops (host_reply s.issuer s.accounts w.messages message)

-- a step of the audit: the card of this number is powered up, or asked a command
pub data Check : Type 0 where
  PowersUp : (i : ℕ) → (card : CardData) → Check
  Asks : (i : ℕ) → (card : CardData) → (command : List ℕ) → Check

-- per application SELECT of its name, and GET DATA of both counters
abbrev pub app_checks : ℕ → CardData → AppData → List Check
app_checks i card app =
    Asks i card (select_command 0 app.name) ∷ Asks i card (get_data counter_tag) ∷ Asks i card (get_data last_online_tag) ∷ []

-- a card of canned answers is passed over
abbrev pub checks_for : ℕ → CardData → Option (List (List ℕ)) → List Check
checks_for i card None = PowersUp i card ∷ flat_map (app_checks i card) card.image.apps
checks_for i card (Some answers) = []

abbrev pub card_checks : ℕ → CardData → List Check
card_checks i card = checks_for i card card.canned

unfoldable pub checks_from : ℕ → List CardData → List Check
checks_from i [] = []
checks_from i (card ∷ cards) = card_checks i card ++ checks_from (i + 1) cards

-- the steps of the audit in their order; a card of canned answers is passed over
abbrev pub checks : ScenarioData → List Check
checks s = checks_from 0 s.cards

abbrev pub with_card : World → ℕ → CardRow → World
with_card w i card = record w { cards = slice_set w.cards i card }

-- a power-up without a plan
abbrev pub audits_power : World → ℕ → CardData → Bool → After
audits_power w i card choice = record {
  world = with_card w i (powered (card_at w i) (found_of (card_at w i).kept (card_at w i).pending choice) (card_at w i).holder);
  lines = audit_power_line card (found_of (card_at w i).kept (card_at w i).pending choice) ∷ [];
  choices = 1;
}

abbrev pub audits_ask : World → ℕ → CardData → List ℕ → CardAnswer → After
audits_ask w i card command said = record {
  world = with_card w i (exchanged card.image (card_at w i) command said);
  lines = audit_lines card command said.answer;
  choices = 0;
}

abbrev pub audits : World → List Bool → Option Check → After
audits w choices None = no_event w
audits w choices (Some (PowersUp i card)) = audits_power w i card (choice_in choices 0)
audits w choices (Some (Asks i card command)) =
    audits_ask w i card command (card_answer card.image (card_at w i).kept (card_at w i).session command)

-- what happens, with these truth values where any are taken
abbrev pub happens : ScenarioData → World → Event → List Bool → After
happens s w (Turn l) choices = turned s w l choices
happens s w (Settle k) choices = settles s w choices (slice_get (settlements s w) k)
happens s w (Audit k) choices = audits w choices (slice_get (checks s) k)

-- the event takes these truth values, makes these lines, and leads to this world
pub record Step (s : ScenarioData) (w : World) (e : Event) (choices : List Bool) (lines : List Line) (after : World) : Type 0 where
  pub taken : length choices ≡ (happens s w e choices).choices
  pub made : lines ≡ (happens s w e choices).lines
  pub leads : after ≡ (happens s w e choices).world
