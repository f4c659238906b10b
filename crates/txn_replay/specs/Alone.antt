-- A lane alone: the scenario with nothing but this lane, its cards and its accounts, and what is the lane's own in a run with
-- others (this project's own).
use Rattle.std.specs.Prelude.{◌≡◌, ◌≢◌, ℕ, zero, suc, ◌+◌, ◌==◌, Bool, true, false, ◌&&◌, ◌||◌, List, [], ◌∷◌, ◌++◌, length, flat_map, slice_get, Option, Some, None}
use Rattle.std.specs.List.{list_any}
use Rattle.std.specs.Str.{bytes_eq}
use Rattle.host_histories.specs.Apart.{pan_carried, own_messages, own_accounts}
use Rattle.report_text.specs.declared.line.Line.{Line}
use Rattle.report_text.specs.declared.line.Line.TheVariants.{Power, PowerCanned, PowerTorn, ToCard, FromCard, Torn, Gone, ToHost, FromHost, NoReply, End, EndLost, SettleCall, SettleReply, AuditPower, AuditAsk, AuditAnswer, Balance}
use Rattle.scenario_plan.specs.Cards.{CardData, no_image}
use Rattle.scenario_plan.specs.Plan.{ScenarioData}
use Rattle.scenario_lanes.specs.Plan.{LaneData}
use Rattle.txn_replay.specs.Choices.{HasNoChoice}
use Rattle.txn_replay.specs.Payment.{Payment, payment_in}
use Rattle.txn_replay.specs.Run.{Finished, Reached, account_lines}
use Rattle.txn_replay.specs.World.{World, new_lane, card_at, lane_at}

abbrev pub names_card : Option LaneData → ℕ → Bool
names_card None i = false
names_card (Some lane) i = list_any (λ planned. planned.card == i) lane.purchases

-- a purchase of the lane names the card of this number
unfoldable pub is_card_of : ScenarioData → ℕ → ℕ → Bool
is_card_of s l i = names_card (slice_get s.lanes l) i

-- in the place of another lane's card before one of the lane: it has no name, answers nothing, and is passed over in the audit
abbrev pub nobody : CardData
nobody = record { name = []; image = no_image; canned = Some [] }

-- a card before these; behind the last one of the lane there is none
abbrev pub before_own : Bool → CardData → List CardData → List CardData
before_own true card cards = card ∷ cards
before_own false card [] = []
before_own false card (other ∷ others) = nobody ∷ other ∷ others

-- the lane's own cards at their places, the first of these having this number
unfoldable pub cards_alone : (ℕ → Bool) → ℕ → List CardData → List CardData
cards_alone own i [] = []
cards_alone own i (card ∷ cards) = before_own (own i) card (cards_alone own (i + 1) cards)

-- a lane that does nothing
abbrev pub idle : LaneData → LaneData
idle lane = record lane { purchases = []; durable = false }

-- a lane behind so many that do nothing, and so with its own number
unfoldable pub behind_idle : ℕ → LaneData → List LaneData
behind_idle zero lane = lane ∷ []
behind_idle (suc l) lane = idle lane ∷ behind_idle l lane

abbrev pub lanes_alone : ℕ → Option LaneData → List LaneData
lanes_alone l None = []
lanes_alone l (Some lane) = behind_idle l lane

-- The scenario in which the lane is alone, with these account numbers: the issuer's keys, the accounts that have one of them,
-- the lane's cards, and the lane.
abbrev pub alone : (List ℕ → Bool) → ScenarioData → ℕ → ScenarioData
alone pans s l = record {
  issuer = s.issuer;
  accounts = own_accounts pans s.accounts;
  cards = cards_alone (is_card_of s l) 0 s.cards;
  lanes = lanes_alone l (slice_get s.lanes l);
  schedule = [];
  copies = s.copies;
}

-- a run of it with these truth values, to the balances of its accounts
pub record LaneRun (pans : List ℕ → Bool) (s : ScenarioData) (l : ℕ) (choices : List Bool) (lines : List Line) (w : World) : Type 0 where
  pub count : ℕ
  pub reported : List Line
  pub reached : Reached (alone pans s l) Finished count choices reported w
  pub whole : lines ≡ reported ++ flat_map (account_lines (alone pans s l) w) (own_accounts pans s.accounts)

-- no other lane's purchase names a card of the lane
abbrev pub HasOwnCards : ScenarioData → ℕ → Type 0
HasOwnCards s l = (k number : ℕ) (p : Payment) → k ≢ l → payment_in s k number ≡ Some p → is_card_of s l p.planned.card ≡ false

-- a message carries one of these account numbers or none of them, where it can be read
abbrev pub CarriesPan : (List ℕ → Bool) → Bool → List ℕ → Type 0
CarriesPan pans own message = (pan : List ℕ) → pan_carried message ≡ Some pan → pans pan ≡ own

-- the messages that a lane has made carry these account numbers alone, and those of other lanes carry none of them
abbrev pub HasOwnNumbers : (List ℕ → Bool) → ℕ → World → Type 0
HasOwnNumbers pans l w = (k i : ℕ) (message : List ℕ) → slice_get (lane_at w k).sent i ≡ Some message → CarriesPan pans (k == l) message

-- two worlds agree on a lane's row, the rows of its cards, and the messages that carry one of these account numbers; in the
-- second no other lane does anything
pub record PartsAgree (pans : List ℕ → Bool) (s : ScenarioData) (l : ℕ) (w v : World) : Type 0 where
  pub lane : lane_at v l ≡ lane_at w l
  pub others : (k : ℕ) → k ≢ l → lane_at v k ≡ new_lane
  pub cards : (i : ℕ) → is_card_of s l i ≡ true → card_at v i ≡ card_at w i
  pub messages : own_messages pans v.messages ≡ own_messages pans w.messages
  pub lane_count : length w.lanes ≡ length s.lanes
  pub card_count : length w.cards ≡ length s.cards
  pub lanes_alone : length v.lanes ≡ l + 1
  pub cards_alone : length v.cards ≡ length (alone pans s l).cards

-- one of the cards that pass is of this name, the first having this number
unfoldable pub names_one : (ℕ → Bool) → ℕ → List CardData → List ℕ → Bool
names_one own i [] name = false
names_one own i (card ∷ cards) name = (own i && bytes_eq card.name name) || names_one own (i + 1) cards name

unfoldable pub is_name_of : ScenarioData → ℕ → List ℕ → Bool
is_name_of s l name = names_one (is_card_of s l) 0 s.cards name

-- a line of the lane, of the audit of one of its cards, or of the balance of one of these account numbers
abbrev pub is_own : (List ℕ → Bool) → ScenarioData → ℕ → Line → Bool
is_own pans s l (Power lane card apps) = lane == l
is_own pans s l (PowerCanned lane card) = lane == l
is_own pans s l (PowerTorn lane card) = lane == l
is_own pans s l (ToCard lane bytes) = lane == l
is_own pans s l (FromCard lane bytes) = lane == l
is_own pans s l (Torn lane) = lane == l
is_own pans s l (Gone lane) = lane == l
is_own pans s l (ToHost lane bytes) = lane == l
is_own pans s l (FromHost lane bytes) = lane == l
is_own pans s l (NoReply lane) = lane == l
is_own pans s l (End lane number parts) = lane == l
is_own pans s l (EndLost lane number) = lane == l
is_own pans s l (SettleCall lane bytes) = lane == l
is_own pans s l (SettleReply lane bytes) = lane == l
is_own pans s l (AuditPower card apps) = is_name_of s l card.items
is_own pans s l (AuditAsk card bytes) = is_name_of s l card.items
is_own pans s l (AuditAnswer card bytes) = is_name_of s l card.items
is_own pans s l (Balance pan amount) = pans pan
is_own pans s l other = false

-- no tear of the lane's cards or of its terminal leaves a choice
abbrev pub LaneHasNoChoice : ScenarioData → ℕ → Type 0
LaneHasNoChoice s l = (number : ℕ) (p : Payment) → payment_in s l number ≡ Some p → HasNoChoice p
