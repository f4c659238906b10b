-- The talk of a terminal at a reader: the lines that it reads, and what it writes (this project's own).
use Rattle.std.specs.Prelude.{◌≡◌, ◌≤◌, ◌<◌, ◌+◌, ℕ, if◌then◌else◌, List, [], ◌∷◌, ◌++◌, codes, Option, Some, None, Bool, false, length, option_map, option_to_list, slice_get}
use Rattle.std.specs.List.{All, flat_map}
use Rattle.std.specs.Str.{bytes_eq}
use Rattle.emv_dict.specs.Settings.{most_amount}
use Rattle.emv_dict.specs.declared.purchase.Logged.{Logged}
use Rattle.kernel.specs.Dialogue.{dialogue}
use Rattle.kernel.specs.EndShown.{EndShown, shown_end}
use Rattle.kernel.specs.Ended.{end_of}
use Rattle.kernel.specs.Kernel.{KernelData, KernelStands, outset_in, kernel_next}
use Rattle.kernel.specs.Reply.{Reply}
use Rattle.kernel.specs.declared.kernel.Next.TheVariants as next
use Rattle.line_talk.specs.Talk.{other_line}
use Rattle.line_talk.specs.Turns.{GoesOn, Opening, Turn, onward_behind}
use Rattle.line_talk.specs.declared.party.Onward.{Onward}
use Rattle.line_talk.specs.declared.party.Onward.TheVariants as way
use Rattle.scenario_lanes.specs.Plan.{IsLane, LaneData}
use Rattle.scenario_lanes.specs.declared.plan.Planned.{Planned}
use Rattle.terminal_state.specs.Terminal.{Outset}
use Rattle.trace_check.specs.Dialogues.{entry_of_standing, is_awaited, reply_with_log}
use Rattle.trace_check.specs.Texts.{entry_of_text, entry_text}
use Rattle.trace_check.specs.declared.entry.Entry.{Entry}
use Rattle.terminal_at_reader.specs.Document.{most_purchases}
use Rattle.terminal_at_reader.specs.Hearing.{fault_line, spoken, understood, unread}
use Rattle.trace_check.specs.LastQuestion.{question_behind}
use Rattle.trace_check.specs.QuestionText.{question_text}
use Rattle.terminal_at_reader.specs.Settlement.{settled_line, settlement_line, settlement_reply, settlement_unread}
use Rattle.terminal_at_reader.specs.Till.{TillData, new_till, till_begun, till_broken_off, till_ended, till_lost, till_lost_captured, till_settled}
use Rattle.trace_check.specs.declared.question.Question.{Question}
use Rattle.terminal_at_reader.specs.declared.work.Phase.TheVariants as phase
use Rattle.terminal_at_reader.specs.declared.work.Work.{Work}

-- an entry as a line
abbrev pub line_of : Entry → List ℕ
line_of entry = entry_text entry ++ 10 ∷ []

-- what the terminal asks behind these replies, or how the purchase ends, as an entry and in the dialect
abbrev pub ask_at : Outset → List Reply → Entry
ask_at outset replies = entry_of_standing outset (dialogue outset replies)

abbrev pub asked_line : Bool → Outset → List Reply → List ℕ
asked_line iso outset replies = line_of (spoken iso (ask_at outset replies))

-- the end record behind these replies, where the dialogue is over
abbrev pub end_shown_at : Outset → List Reply → Option EndShown
end_shown_at outset replies = option_map shown_end (end_of outset (dialogue outset replies))

-- the last question about a cryptogram that is decided on behind these replies
abbrev pub question_decided : Outset → List Reply → Option Question
question_decided outset replies = question_behind outset.settings.kind (dialogue outset replies).steps_done

-- the outset of a lane's purchase
abbrev pub outset_of_planned : LaneData → Planned → Outset
outset_of_planned lane planned = record { settings = lane.settings; purchase = planned.purchase }

-- the line that asks for what was written last and waits, and the one that asks why the last question is of its kind; and at
-- rest those that ask for the next purchase, and for the settlement
abbrev pub want_line : List ℕ
want_line = codes "want"

abbrev pub why_line : List ℕ
why_line = codes "why"

abbrev pub next_line : List ℕ
next_line = codes "next"

abbrev pub settle_line : List ℕ
settle_line = codes "settle"

-- those that tell the terminal that it has lost its power, at rest also that its store had the last message
abbrev pub lost_line : List ℕ
lost_line = codes "lost"

abbrev pub lost_captured_line : List ℕ
lost_captured_line = codes "lost captured"

-- what a terminal is at: a purchase, behind these replies; it rests; or a settlement, in which so many messages were
-- answered and the one behind them waits for its reply
pub data Doing : Type 0 where
  Pays : (outset : Outset) → (replies : List Reply) → Doing
  Rests : Doing
  Settles : (answered : ℕ) → Doing

-- what is said to a line, how it goes on, what the terminal is at then, and what it has of its purchases
pub record TerminalTurn : Type 0 where
  pub answer : List ℕ
  pub onward : Onward
  pub doing : Doing
  pub till : TillData

abbrev pub other_turn : Onward → Doing → TillData → TerminalTurn
other_turn onward doing till = record { answer = other_line; onward = onward; doing = doing; till = till }

-- what a question's kind rests on is told, and all stays as it is
abbrev pub why_turn : Onward → Doing → TillData → Option Question → TerminalTurn
why_turn onward doing till question = record { answer = question_text question; onward = onward; doing = doing; till = till }

-- the terminal has lost its power: the line comes again, and it rests
abbrev pub lost_turn : List ℕ → TillData → TerminalTurn
lost_turn line till = record { answer = line ++ 10 ∷ []; onward = way.Rests; doing = Rests; till = till }

-- the purchase asks, and where it has ended the terminal rests
abbrev pub turn_by_end : Outset → List Reply → TillData → List ℕ → Option EndShown → TerminalTurn
turn_by_end outset replies till text None = record { answer = text; onward = way.Awaits; doing = Pays outset replies; till = till }
turn_by_end outset replies till text (Some end) = record { answer = text; onward = way.Rests; doing = Rests; till = till_ended outset.purchase.amount end (question_decided outset replies) till }

-- behind these replies it is asked what the dialogue asks then, and before that this is told
abbrev pub asked_turn : Bool → Outset → List Reply → TillData → List ℕ → TerminalTurn
asked_turn iso outset replies till told = turn_by_end outset replies till (told ++ asked_line iso outset replies) (end_shown_at outset replies)

-- the reply that a line is to the dialogue, where it is one, and what is told of it
abbrev pub reply_if_entry : Bool → List Logged → Option Entry → Option Reply
reply_if_entry iso log None = None
reply_if_entry iso log (Some entry) = reply_with_log log (understood iso entry)

abbrev pub told_of : Bool → Option Entry → List ℕ
told_of iso None = []
told_of iso (Some entry) = fault_line (unread iso entry)

-- a reply that the terminal awaits is taken; nothing else is, and nothing more is asked then
abbrev pub turn_with : Bool → Outset → List Reply → TillData → List ℕ → Option Reply → TerminalTurn
turn_with iso outset replies till told None = other_turn way.Stuck (Pays outset replies) till
turn_with iso outset replies till told (Some reply) =
    if is_awaited (dialogue outset replies).deed reply then asked_turn iso outset (replies ++ reply ∷ []) till told
    else other_turn way.Stuck (Pays outset replies) till

-- in a purchase; a card is asked with the log as it is
unfoldable pub paying_turn : Bool → Outset → List Reply → TillData → List ℕ → TerminalTurn
paying_turn iso outset replies till line =
    if bytes_eq line want_line then asked_turn iso outset replies till []
    else if bytes_eq line why_line then why_turn way.Awaits (Pays outset replies) till (question_decided outset replies)
    else if bytes_eq line lost_line then lost_turn lost_line (till_broken_off till)
    else turn_with iso outset replies till (told_of iso (entry_of_text line)) (reply_if_entry iso till.log (entry_of_text line))

-- a purchase begins, where one is left
abbrev pub turn_if_planned : LaneData → TillData → Option Planned → TerminalTurn
turn_if_planned lane till None = other_turn way.Rests Rests till
turn_if_planned lane till (Some planned) = asked_turn lane.iso (outset_of_planned lane planned) [] (till_begun till) []

abbrev pub next_turn : LaneData → TillData → TerminalTurn
next_turn lane till = turn_if_planned lane till (slice_get lane.purchases till.begun)

-- the message behind so many is sent, or all were, and none is left
abbrev pub turn_if_captured : Bool → TillData → ℕ → List ℕ → Option (List ℕ) → TerminalTurn
turn_if_captured iso till answered told None =
    record { answer = told ++ settled_line answered; onward = way.Rests; doing = Rests; till = till_settled till }
turn_if_captured iso till answered told (Some message) =
    record { answer = told ++ settlement_line iso message; onward = way.Awaits; doing = Settles answered; till = till }

abbrev pub settlement_turn : Bool → TillData → ℕ → List ℕ → TerminalTurn
settlement_turn iso till answered told = turn_if_captured iso till answered told (slice_get till.captures answered)

-- at rest it may have lost its power
unfoldable pub losing_turn : TillData → List ℕ → TerminalTurn
losing_turn till line =
    if bytes_eq line lost_line then lost_turn lost_line (till_lost till)
    else if bytes_eq line lost_captured_line then lost_turn lost_captured_line (till_lost_captured till)
    else other_turn way.Rests Rests till

-- at rest; the last question is that of the purchase that ended last
unfoldable pub resting_turn : LaneData → TillData → List ℕ → TerminalTurn
resting_turn lane till line =
    if bytes_eq line next_line then next_turn lane till
    else if bytes_eq line settle_line then settlement_turn lane.iso till 0 []
    else if bytes_eq line why_line then why_turn way.Rests Rests till till.question
    else losing_turn till line

-- in a settlement, in which a reply is awaited
abbrev pub turn_if_reply : Bool → TillData → ℕ → Option (List ℕ) → TerminalTurn
turn_if_reply iso till answered None = other_turn way.Stuck (Settles answered) till
turn_if_reply iso till answered (Some reply) =
    settlement_turn iso till (answered + 1) (fault_line (settlement_unread iso (slice_get till.captures answered) reply))

unfoldable pub settling_turn : Bool → TillData → ℕ → List ℕ → TerminalTurn
settling_turn iso till answered line =
    if bytes_eq line want_line then settlement_turn iso till answered []
    else if bytes_eq line why_line then why_turn way.Awaits (Settles answered) till till.question
    else turn_if_reply iso till answered (settlement_reply line)

abbrev pub terminal_turn : LaneData → Doing → TillData → List ℕ → TerminalTurn
terminal_turn lane (Pays outset replies) till line = paying_turn lane.iso outset replies till line
terminal_turn lane Rests till line = resting_turn lane till line
terminal_turn lane (Settles answered) till line = settling_turn lane.iso till answered line

-- before the first line the first purchase begins
abbrev pub first_turn : LaneData → TerminalTurn
first_turn lane = next_turn lane new_till

abbrev pub terminal_opening : LaneData → Opening
terminal_opening lane = record { text = (first_turn lane).answer; onward = (first_turn lane).onward }

abbrev pub turn_at : List ℕ → TerminalTurn → Turn
turn_at line turn = record { line = line; answer = turn.answer; onward = turn.onward }

-- lines that were answered one after the other, each where one may follow
pub data TerminalTalked (lane : LaneData) : List Turn → Doing → TillData → Type 0 where
  begins : TerminalTalked lane [] (first_turn lane).doing (first_turn lane).till
  goes : (turns : List Turn) (doing : Doing) (till : TillData) (line : List ℕ) → TerminalTalked lane turns doing till
      → GoesOn (onward_behind (terminal_opening lane).onward turns)
      → TerminalTalked lane (turns ++ turn_at line (terminal_turn lane doing till line) ∷ []) (terminal_turn lane doing till line).doing (terminal_turn lane doing till line).till

-- lines and answers are a talk of a terminal with this lane
abbrev pub IsTerminalTalk : LaneData → List Turn → Type 0
IsTerminalTalk lane turns = (doing : Doing) × (till : TillData) × TerminalTalked lane turns doing till

-- a terminal that waits for a reply behind these
pub record IsLive (outset : Outset) (kernel : KernelData) (replies : List Reply) : Type 0 where
  pub outset_is : outset_in kernel ≡ outset
  pub stands : KernelStands kernel replies
  pub fresh : kernel.is_spent ≡ false

-- it is at a purchase, behind these replies
pub record IsPaying (work : Work) (outset : Outset) (replies : List Reply) : Type 0 where
  pub phase_is : work.phase ≡ phase.Pays
  pub live : IsLive outset work.kernel replies
  pub amount_is : work.amount ≡ outset.purchase.amount
  pub type_is : work.terminal_type ≡ outset.settings.kind
  pub amount_fits : work.amount ≤ most_amount

-- it is at a settlement, in which so many messages were answered and another one waits
pub record IsAtSettlement (work : Work) (till : TillData) (answered : ℕ) : Type 0 where
  pub phase_is : work.phase ≡ phase.Settles answered
  pub waits : answered < length till.captures

abbrev pub IsDoing : Work → TillData → Doing → Type 0
IsDoing work till (Pays outset replies) = IsPaying work outset replies
IsDoing work till Rests = work.phase ≡ phase.Rests
IsDoing work till (Settles answered) = IsAtSettlement work till answered

-- the amounts of a log are within their limit
abbrev pub HasAmounts : List Logged → Type 0
HasAmounts log = All (λ logged. logged.amount ≤ most_amount) log

-- what it is at, and what it has of its purchases
pub record WorksAt (work : Work) (doing : Doing) (till : TillData) : Type 0 where
  pub till_is : work.till ≡ till
  pub does : IsDoing work till doing
  pub amounts : HasAmounts till.log

-- this was answered so, and where another line may follow the terminal is where the turn leaves it
pub record IsTurnOf (work : Work) (text : List ℕ) (onward : Onward) (turn : TerminalTurn) : Type 0 where
  pub answer_is : text ≡ turn.answer
  pub onward_is : onward ≡ turn.onward
  pub works : GoesOn turn.onward → WorksAt work turn.doing turn.till

-- the first purchase of a lane has begun, and asks the card
pub record HasBegunFirst (lane : LaneData) (work : Work) : Type 0 where
  pub planned : Planned
  pub first : slice_get lane.purchases 0 ≡ Some planned
  pub live : IsLive (outset_of_planned lane planned) work.kernel []
  pub waits : kernel_next work.kernel ≡ next.ToCard

-- a terminal that has answered these lines so
pub record HasAskedSo (lane : LaneData) (work : Work) (turns : List Turn) : Type 0 where
  pub doing : Doing
  pub till : TillData
  pub rules : IsLane lane
  pub few : length lane.purchases ≤ most_purchases
  pub talked : TerminalTalked lane turns doing till
  pub works : GoesOn (onward_behind (terminal_opening lane).onward turns) → WorksAt work doing till
  pub first : turns ≡ [] → HasBegunFirst lane work

-- the replies among entries, to a terminal with this log
abbrev pub replies_heard : List Logged → List Entry → List Reply
replies_heard log entries = flat_map (λ entry. option_to_list (reply_with_log log entry)) entries

-- the entries of a trace that lines and answers of a purchase are, up to what was asked last: behind a reply stands what is
-- told of it, and what is asked next; a line that asks for it once more is no entry, nor is one that asks why, which is
-- answered by the last question behind the replies so far
pub data AreEntries (iso : Bool) (log : List Logged) (outset : Outset) (first : List ℕ) : List Turn → List Entry → Type 0 where
  asks : (ask : Entry) → first ≡ line_of (spoken iso ask) → AreEntries iso log outset first [] (ask ∷ [])
  asks_again : (turns : List Turn) (entries : List Entry) (ask : Entry) (turn : Turn) → AreEntries iso log outset first turns (entries ++ ask ∷ [])
      → turn.line ≡ want_line → turn.answer ≡ line_of (spoken iso ask) → AreEntries iso log outset first (turns ++ turn ∷ []) (entries ++ ask ∷ [])
  asks_why : (turns : List Turn) (entries : List Entry) (turn : Turn) → AreEntries iso log outset first turns entries
      → turn.line ≡ why_line → turn.answer ≡ question_text (question_decided outset (replies_heard log entries))
      → AreEntries iso log outset first (turns ++ turn ∷ []) entries
  goes_on : (turns : List Turn) (entries : List Entry) (said ask : Entry) (turn : Turn) → AreEntries iso log outset first turns entries
      → turn.line ≡ entry_text said → turn.answer ≡ fault_line (unread iso said) ++ line_of (spoken iso ask)
      → AreEntries iso log outset first (turns ++ turn ∷ []) (entries ++ understood iso said ∷ ask ∷ [])
