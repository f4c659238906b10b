-- A card in a reader: what it answers to each line (ISO/IEC 7816-4; EMV 4.3 Book 3 section 6.5).
use Rattle.std.specs.Prelude.{◌≡◌, ℕ, Bool, if◌then◌else◌, List, [], ◌∷◌, ◌++◌, length, codes, Option, Some, None, IsTrue}
use Rattle.card_app.specs.Answering.{card_answer}
use Rattle.card_app.specs.Reasons.{why_of}
use Rattle.card_app.specs.SeenCard.{CardSeen}
use Rattle.card_app.specs.SeenIcc.{IccOn, IccOff}
use Rattle.card_app.specs.Session.{Exchange}
use Rattle.card_files.specs.Files.{opening_of}
use Rattle.card_files.specs.Views.{ImageData}
use Rattle.card_app.specs.Cuts.{Cut, cut_of, fate_by, kept_by, pending_by}
use Rattle.card_app.specs.Pages.{found_of}
use Rattle.card_state.specs.Decisions.{Decided}
use Rattle.card_state.specs.Totals.{totals}
use Rattle.emv_ports.specs.Cut.{names_commit, is_plan}
use Rattle.emv_ports.specs.declared.tear.Tear.{Tear}
use Rattle.report_text.specs.Pieces.{hex_or_dash}
use Rattle.report_text.specs.Text.{all_shown}
use Rattle.card_app.specs.Counters.{shown_all}
use Rattle.line_talk.specs.Turns.{Opening, Turn}
use Rattle.line_talk.specs.declared.party.Onward.TheVariants.{Rests}
use Rattle.card_words.specs.DecisionText.{decided_text}
use Rattle.card_words.specs.ReasonText.{why_text}
use Rattle.card_words.specs.StateText.{state_text}
use Rattle.card_words.specs.declared.decision.Told.{Told}
use Rattle.card_at_reader.specs.Notes.{NotesData, no_notes, plan_of, powered_notes, torn_notes, answered_notes}
use Rattle.card_at_reader.specs.SincePower.{Since, cut_since, nothing_since, told_since}
use Rattle.card_at_reader.specs.TornText.{torn_answer}
use Rattle.card_at_reader.specs.Words.{line_word}
use Rattle.card_at_reader.specs.declared.word.Order.{Order}
use Rattle.card_at_reader.specs.declared.word.Order.TheVariants.{Power, Off, Command, Pull}
use Rattle.card_at_reader.specs.declared.word.Question.{Question}
use Rattle.card_at_reader.specs.declared.word.Question.TheVariants.{State, Torn as TornAsked, Decided as DecidedAsked, Why}
use Rattle.card_at_reader.specs.declared.word.Word.{Word}
use Rattle.card_at_reader.specs.declared.word.Word.TheVariants.{Does, Asks, Other}

-- on behind this session, the decisions that the power-up found and those since; or off, with these decisions and perhaps
-- one more, and with what was decided since the last power-up
pub data Side : Type 0 where
  IsOn : (session : List Exchange) (found taken : List Decided) → Side
  IsOff : (kept : List Decided) (pending : Option Decided) (since : Since) → Side

-- what was decided since the last power-up
abbrev pub since_of : Side → Since
since_of (IsOn session found taken) = record { found = found; kept = taken; unsure = None }
since_of (IsOff kept pending since) = since

-- with what is noted beside it
pub record At : Type 0 where
  pub side : Side
  pub notes : NotesData

abbrev pub at_of : Side → NotesData → At
at_of side notes = record { side = side; notes = notes }

-- a card that has decided nothing yet
abbrev pub desk_at_first : At
desk_at_first = at_of (IsOff [] None nothing_since) no_notes

-- an answer, and what is behind it
pub record DeskTurn : Type 0 where
  pub answer : List ℕ
  pub after : At

-- the numbers of a report's power line, behind the word
abbrev pub power_text : ImageData → List Decided → List ℕ
power_text image ds = codes "power" ++ (all_shown (shown_all image.apps (totals (opening_of image) ds)) ++ 10 ∷ [])

abbrev pub torn_power : List ℕ
torn_power = codes "power torn" ++ 10 ∷ []

abbrev pub off_text : List ℕ
off_text = codes "off" ++ 10 ∷ []

abbrev pub torn_text : List ℕ
torn_text = codes "< torn" ++ 10 ∷ []

abbrev pub other_text : List ℕ
other_text = codes "?" ++ 10 ∷ []

abbrev pub answer_text : List ℕ → List ℕ
answer_text answer = codes "< " ++ (hex_or_dash answer ++ 10 ∷ [])

-- a power-up from off: `with_it` tells whether a decision that was cut is found
abbrev pub desk_powered : ImageData → Bool → NotesData → List Decided → Option Decided → DeskTurn
desk_powered image with_it notes kept pending =
    if names_commit (plan_of notes) 0 then record { answer = torn_power; after = at_of (IsOff kept pending nothing_since) (torn_notes (powered_notes notes)) }
    else record { answer = power_text image (found_of kept pending with_it); after = at_of (IsOn [] (found_of kept pending with_it) []) (powered_notes notes) }

-- a command to a card that is on, where its plan cuts none of its decisions or this one
abbrev pub commanded : ImageData → List Exchange → List Decided → List Decided → NotesData → List ℕ → Option Cut → DeskTurn
commanded image session found taken notes command None = record {
  answer = answer_text (card_answer image (found ++ taken) session command).answer;
  after = at_of (IsOn (session ++ record { command = command; answer = (card_answer image (found ++ taken) session command).answer } ∷ []) found
      (taken ++ (card_answer image (found ++ taken) session command).new)) (answered_notes notes (why_of image (found ++ taken) session command));
}
commanded image session found taken notes command (Some cut) = record {
  answer = torn_text;
  after = at_of (IsOff (kept_by (fate_by notes.plan) (found ++ taken) cut) (pending_by (fate_by notes.plan) cut) (cut_since (fate_by notes.plan) found taken cut))
      (torn_notes notes);
}

-- by where the card is
abbrev pub power_turn : ImageData → Bool → NotesData → Side → DeskTurn
power_turn image with_it notes (IsOn session found taken) = desk_powered image with_it notes (found ++ taken) None
power_turn image with_it notes (IsOff kept pending since) = desk_powered image with_it notes kept pending

abbrev pub off_side : Side → Side
off_side (IsOn session found taken) = IsOff (found ++ taken) None (record { found = found; kept = taken; unsure = None })
off_side (IsOff kept pending since) = IsOff kept pending since

abbrev pub command_turn : ImageData → NotesData → List ℕ → Side → DeskTurn
command_turn image notes command (IsOn session found taken) =
    commanded image session found taken notes command (cut_of notes.plan (length taken) (card_answer image (found ++ taken) session command).new)
command_turn image notes command (IsOff kept pending since) = record { answer = other_text; after = at_of (IsOff kept pending since) notes }

-- turned off, where it is on
abbrev pub turned_off : At → At
turned_off at = at_of (off_side at.side) at.notes

-- a plan for the next power-up
abbrev pub pull_turn : At → List ℕ → Tear → DeskTurn
pull_turn at line tear = record { answer = line ++ 10 ∷ []; after = at_of at.side (record at.notes { next = Some tear }) }

-- its state; of a card that is off, as a power-up without a plan finds it, which is what the next one finds
abbrev pub state_turn : ImageData → Bool → NotesData → Side → DeskTurn
state_turn image with_it notes (IsOn session found taken) = record {
  answer = state_text (totals (opening_of image) (found ++ taken));
  after = at_of (IsOn session found taken) notes;
}
state_turn image with_it notes (IsOff kept pending since) = record {
  answer = state_text (totals (opening_of image) (found_of kept pending with_it));
  after = at_of (IsOff (found_of kept pending with_it) None since) notes;
}

-- what is told, and the card is left as it is
abbrev pub question_turn : ImageData → Bool → At → Question → DeskTurn
question_turn image with_it at State = state_turn image with_it at.notes at.side
question_turn image with_it at TornAsked = record { answer = torn_answer at.notes.torn; after = at }
question_turn image with_it at DecidedAsked = record { answer = decided_text (told_since (opening_of image) (since_of at.side)); after = at }
question_turn image with_it at Why = record { answer = why_text at.notes.why; after = at }

-- what the card does
abbrev pub order_turn : ImageData → Bool → At → List ℕ → Order → DeskTurn
order_turn image with_it at line Power = power_turn image with_it at.notes at.side
order_turn image with_it at line Off = record { answer = off_text; after = turned_off at }
order_turn image with_it at line (Command command) = command_turn image at.notes command.items at.side
order_turn image with_it at line (Pull tear) = pull_turn at line tear

-- by what the line says
abbrev pub turn_by : ImageData → Bool → At → List ℕ → Word → DeskTurn
turn_by image with_it at line (Does order) = order_turn image with_it at line order
turn_by image with_it at line (Asks question) = question_turn image with_it at question
turn_by image with_it at line Other = record { answer = other_text; after = at }

-- the answer to a line
unfoldable pub turn : ImageData → Bool → At → List ℕ → DeskTurn
turn image with_it at line = turn_by image with_it at line (line_word line)

-- the card in the reader is there
abbrev pub SideStands : CardSeen → Option Tear → Side → Type 0
SideStands icc plan (IsOn session found taken) = IccOn icc session (found ++ taken) plan (length taken)
SideStands icc plan (IsOff kept pending since) = IccOff icc kept pending

-- and what is noted of its decisions is what was decided
pub record SideHolds (icc : CardSeen) (plan : Option Tear) (told : List Told) (side : Side) : Type 0 where
  pub stands : SideStands icc plan side
  pub told_is : told ≡ told_since (opening_of icc.image) (since_of side)

pub record DeskStands (icc : CardSeen) (notes : NotesData) (told : List Told) (at : At) : Type 0 where
  pub notes_are : at.notes ≡ notes
  pub side : SideStands icc notes.plan at.side
  pub told_is : told ≡ told_since (opening_of icc.image) (since_of at.side)

-- a tear that is asked for can be planned
abbrev pub CanBeDone : Order → Type 0
CanBeDone Power = Unit {0}
CanBeDone Off = Unit {0}
CanBeDone (Command command) = Unit {0}
CanBeDone (Pull tear) = IsTrue (is_plan (Some tear))

abbrev pub CanBePlanned : Word → Type 0
CanBePlanned (Does order) = CanBeDone order
CanBePlanned (Asks question) = Unit {0}
CanBePlanned Other = Unit {0}

-- this was answered, and the card stands where the turn leaves it
pub record IsTurn (icc : CardSeen) (notes : NotesData) (told : List Told) (text : List ℕ) (turn : DeskTurn) : Type 0 where
  pub answer_is : text ≡ turn.answer
  pub stands : DeskStands icc notes told turn.after

-- lines that were answered one after the other; behind each another may follow
pub data CardTalked (image : ImageData) (from : At) : List Turn → At → Type 0 where
  begins : CardTalked image from [] from
  goes : (turns : List Turn) (at : At) (line : List ℕ) (with_it : Bool) → CardTalked image from turns at
      → CardTalked image from (turns ++ record { line = line; answer = (turn image with_it at line).answer; onward = Rests } ∷ []) (turn image with_it at line).after

-- lines and answers are a talk of a card of this image, from the day that it was made
abbrev pub IsCardTalk : ImageData → List Turn → Type 0
IsCardTalk image turns = (at : At) × CardTalked image desk_at_first turns at

-- a card that has answered these lines so stands in the reader
pub record HasAnswered (icc : CardSeen) (notes : NotesData) (told : List Told) (turns : List Turn) : Type 0 where
  pub at : At
  pub talked : CardTalked icc.image desk_at_first turns at
  pub stands : DeskStands icc notes told at

-- it says nothing before the first line
abbrev pub card_opening : Opening
card_opening = record { text = []; onward = Rests }
