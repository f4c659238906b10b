-- What the lines of a run tell: which card lost its power, what each terminal was told, and how each purchase ended (this
-- project's own).
use Rattle.std.specs.Prelude.{◌≡◌, ℕ, ◌+◌, ◌==◌, Bool, true, false, is_some, option_map, if◌then◌else◌, List, [], ◌∷◌, ◌++◌, length, map, flat_map, fold, slice_get, Option, Some, None}
use Rattle.std.specs.Str.{bytes_eq}
use Rattle.host_link.specs.Dialect.{call_in, reply_in}
use Rattle.kernel.specs.Dialogue.{dialogue}
use Rattle.kernel.specs.Ended.{EndData}
use Rattle.kernel.specs.Kernel.{told_bytes}
use Rattle.kernel.specs.Reply.{Reply, CardSaid, CardGone, HostSaid, HostSilent}
use Rattle.report_text.specs.declared.line.EndParts.{EndParts}
use Rattle.report_text.specs.declared.line.Line.{Line}
use Rattle.report_text.specs.declared.line.Line.TheVariants.{Power, PowerCanned, PowerTorn, FromCard, Torn, Gone, ToHost, FromHost, NoReply, SettleCall, End, EndLost}
use Rattle.scenario_plan.specs.Cards.{CardData}
use Rattle.scenario_plan.specs.Plan.{ScenarioData, IsScenario}
use Rattle.txn_replay.specs.Lines.{end_parts}
use Rattle.txn_replay.specs.Payment.{Payment, payment_in, dialect_of, outset_for, end_at}
use Rattle.txn_replay.specs.Run.{RunPlace, Reached, Run}
use Rattle.txn_replay.specs.World.{Past, LaneRow, World, card_at, lane_at}

-- the card that a power line of this lane names, else the one that was known
abbrev pub card_next : ℕ → List ℕ → Line → List ℕ
card_next l name (Power lane card apps) = if lane == l then card.items else name
card_next l name (PowerCanned lane card) = if lane == l then card.items else name
card_next l name (PowerTorn lane card) = if lane == l then card.items else name
card_next l name other = name

-- the name of the card in a lane: that in its last power line
unfoldable pub card_told : ℕ → List Line → List ℕ
card_told l lines = fold (card_next l) [] lines

-- a line behind these tells that the power of the card of this name was cut
abbrev pub is_loss_of : List ℕ → List Line → Line → Bool
is_loss_of name before (PowerTorn lane card) = bytes_eq card.items name
is_loss_of name before (Torn lane) = bytes_eq (card_told lane before) name
is_loss_of name before other = false

-- how many of some lines, behind others, tell it
unfoldable pub losses_told_behind : List ℕ → List Line → List Line → ℕ
losses_told_behind name before [] = 0
losses_told_behind name before (line ∷ lines) = (if is_loss_of name before line then 1 else 0) + losses_told_behind name (before ++ line ∷ []) lines

abbrev pub losses_told : List ℕ → List Line → ℕ
losses_told name lines = losses_told_behind name [] lines

-- a card has lost its power as often as the lines tell
abbrev pub HasLosses : ScenarioData → List Line → World → Type 0
HasLosses s lines w = (i : ℕ) (card : CardData) → slice_get s.cards i ≡ Some card → (card_at w i).losses ≡ losses_told card.name lines

-- in every run a card has lost its power as often as the lines tell
abbrev pub RunsTellLosses : Type 0
RunsTellLosses =
    (s : ScenarioData) (place : RunPlace) (n : ℕ) (choices : List Bool) (lines : List Line) (w : World)
    → IsScenario s → Reached s place n choices lines w → HasLosses s lines w

-- so it is of whole runs
abbrev pub WholeRunsTellLosses : Type 0
WholeRunsTellLosses = (s : ScenarioData) (lines : List Line) (w : World) → IsScenario s → Run s lines w → HasLosses s lines w

-- what a terminal was told: a card's answer, that the card is gone, the host's reply, or none
pub data Heard : Type 0 where
  Answered : (bytes : List ℕ) → Heard
  Cut : Heard
  Replied : (bytes : List ℕ) → Heard
  Silence : Heard

-- a reply as its line tells it: the host's is spelled in the lane's dialect, as an answer to this message
abbrev pub heard_of : Bool → List ℕ → Reply → Heard
heard_of iso message (CardSaid answer log) = Answered answer
heard_of iso message CardGone = Cut
heard_of iso message (HostSaid reply) = Replied (reply_in iso message reply)
heard_of iso message HostSilent = Silence

-- so each of these replies, behind others, to what the dialogue asks there
abbrev pub heard_behind : Payment → List Reply → List Reply → List Heard
heard_behind p before [] = []
heard_behind p before (reply ∷ replies) =
    heard_of p.iso (told_bytes (dialogue (outset_for p) before)) reply ∷ heard_behind p (before ++ reply ∷ []) replies

abbrev pub heard_in : Option Payment → List Reply → List Heard
heard_in None replies = []
heard_in (Some p) replies = heard_behind p [] replies

-- an end line, with what was told since the power line before it; that of a lost purchase tells no outcome
pub record EndTold : Type 0 where
  pub heard : List Heard
  pub number : ℕ
  pub parts : Option EndParts

-- what was told since a lane's last power line, and its end lines
pub record LaneTold : Type 0 where
  pub heard : List Heard
  pub ended : List EndTold

abbrev pub hears : LaneTold → Heard → LaneTold
hears t heard = record { heard = t.heard ++ heard ∷ []; ended = t.ended }

abbrev pub told_begins : LaneTold → List Heard → LaneTold
told_begins t heard = record { heard = heard; ended = t.ended }

abbrev pub finishes : LaneTold → ℕ → Option EndParts → LaneTold
finishes t number parts = record { heard = []; ended = t.ended ++ record { heard = t.heard; number = number; parts = parts } ∷ [] }

abbrev pub told_by_line : ℕ → LaneTold → Line → LaneTold
told_by_line l t (Power lane card apps) = if lane == l then told_begins t [] else t
told_by_line l t (PowerCanned lane card) = if lane == l then told_begins t [] else t
told_by_line l t (PowerTorn lane card) = if lane == l then told_begins t (Cut ∷ []) else t
told_by_line l t (FromCard lane bytes) = if lane == l then hears t (Answered bytes.items) else t
told_by_line l t (Torn lane) = if lane == l then hears t Cut else t
told_by_line l t (Gone lane) = if lane == l then hears t Cut else t
told_by_line l t (FromHost lane bytes) = if lane == l then hears t (Replied bytes.items) else t
told_by_line l t (NoReply lane) = if lane == l then hears t Silence else t
told_by_line l t (End lane number parts) = if lane == l then finishes t number (Some parts) else t
told_by_line l t (EndLost lane number) = if lane == l then finishes t number None else t
told_by_line l t other = t

unfoldable pub lane_told : ℕ → List Line → LaneTold
lane_told l lines = fold (told_by_line l) (record { heard = []; ended = [] }) lines

-- the ended purchases of a lane, the first of which has this number, from 0; the lines' numbers are from 1
-- the outcome of a purchase is told where it isn't lost
abbrev pub parts_told : Bool → Option EndData → Option EndParts
parts_told false end = option_map end_parts end
parts_told true end = None

abbrev pub pasts_told : ScenarioData → ℕ → ℕ → List Past → List EndTold
pasts_told s l n [] = []
pasts_told s l n (past ∷ pasts) =
    record { heard = heard_in (payment_in s l n) past.replies; number = n + 1; parts = parts_told past.lost past.end } ∷ pasts_told s l (n + 1) pasts

-- The lines between a power line and an end line are the replies of that purchase, and so are those behind the last power
-- line where the purchase still runs. Behind an end line there are none before the next power line.
pub record IsLaneTold (s : ScenarioData) (l : ℕ) (row : LaneRow) (t : LaneTold) : Type 0 where
  pub ended : t.ended ≡ pasts_told s l 0 row.ended
  pub heard : (replies : List Reply) → row.running ≡ Some replies → t.heard ≡ heard_in (payment_in s l (length row.ended)) replies
  pub rests : row.running ≡ None → t.heard ≡ []

-- in every run the lines of a lane between a power line and an end line are the replies of that purchase
abbrev pub RunsTellReplies : Type 0
RunsTellReplies =
    (s : ScenarioData) (place : RunPlace) (n : ℕ) (choices : List Bool) (lines : List Line) (w : World) (l : ℕ)
    → Reached s place n choices lines w → IsLaneTold s l (lane_at w l) (lane_told l lines)

-- the message that a line of a lane tells
abbrev pub message_told : ℕ → Line → List (List ℕ)
message_told l (ToHost lane bytes) = if lane == l then bytes.items ∷ [] else []
message_told l (SettleCall lane bytes) = if lane == l then bytes.items ∷ [] else []
message_told l other = []

unfoldable pub messages_told : ℕ → List Line → List (List ℕ)
messages_told l lines = flat_map (message_told l) lines

-- the messages that a lane made for the host are those of its lines, in the lane's dialect
abbrev pub RunsTellMessages : Type 0
RunsTellMessages =
    (s : ScenarioData) (place : RunPlace) (n : ℕ) (choices : List Bool) (lines : List Line) (w : World) (l : ℕ)
    → Reached s place n choices lines w → messages_told l lines ≡ map (call_in (dialect_of s l)) (lane_at w l).sent

-- an end record is that of the purchase's dialogue over its replies, and a purchase that isn't lost has one
pub record EndsSo (s : ScenarioData) (l number : ℕ) (past : Past) : Type 0 where
  pub payment : Payment
  pub is : payment_in s l number ≡ Some payment
  pub ends : (end : EndData) → past.end ≡ Some end → end_at payment past.replies ≡ Some end
  pub there : past.lost ≡ false → is_some past.end ≡ true

-- an end record is that of the purchase's dialogue over its replies, and only a lost purchase may have none
abbrev pub PastsEnd : Type 0
PastsEnd =
    (s : ScenarioData) (place : RunPlace) (n : ℕ) (choices : List Bool) (lines : List Line) (w : World) (l number : ℕ) (past : Past)
    → Reached s place n choices lines w → slice_get (lane_at w l).ended number ≡ Some past → EndsSo s l number past
