-- A card of canned answers in a reader: what it answers to each line (this project's own).
use Rattle.std.specs.Prelude.{◌≡◌, ℕ, ◌+◌, List, [], ◌∷◌, ◌++◌, codes, Option, Some, None, slice_get}
use Rattle.line_talk.specs.Turns.{Turn}
use Rattle.line_talk.specs.declared.party.Onward.TheVariants.{Rests}
use Rattle.card_at_reader.specs.Desk.{answer_text, off_text, other_text}
use Rattle.card_at_reader.specs.Words.{line_word}
use Rattle.card_at_reader.specs.declared.word.Order.TheVariants.{Power, Off, Command, Pull}
use Rattle.card_at_reader.specs.declared.word.Word.{Word}
use Rattle.card_at_reader.specs.declared.word.Word.TheVariants.{Does, Asks, Other}

-- an answer, and how many of its answers the card gave since power-up behind it, where it is on
pub record CannedTurn : Type 0 where
  pub answer : List ℕ
  pub after : Option ℕ

abbrev pub canned_power : List ℕ
canned_power = codes "power canned" ++ 10 ∷ []

abbrev pub gone_text : List ℕ
gone_text = codes "< gone" ++ 10 ∷ []

-- the next answer behind so many; behind the last one the card is gone
abbrev pub canned_given : ℕ → Option (List ℕ) → CannedTurn
canned_given given None = record { answer = gone_text; after = None }
canned_given given (Some answer) = record { answer = answer_text answer; after = Some (given + 1) }

-- a command, wherever the card is
abbrev pub canned_command : List (List ℕ) → Option ℕ → CannedTurn
canned_command answers None = record { answer = other_text; after = None }
canned_command answers (Some given) = canned_given given (slice_get answers given)

-- by what the line asks: a power-up begins with the first answer, and there is no commit at which it could be pulled out
abbrev pub canned_turn_by : List (List ℕ) → Option ℕ → Word → CannedTurn
canned_turn_by answers at (Does Power) = record { answer = canned_power; after = Some 0 }
canned_turn_by answers at (Does Off) = record { answer = off_text; after = None }
canned_turn_by answers at (Does (Command command)) = canned_command answers at
canned_turn_by answers at (Does (Pull tear)) = record { answer = other_text; after = at }
canned_turn_by answers at (Asks question) = record { answer = other_text; after = at }
canned_turn_by answers at Other = record { answer = other_text; after = at }

-- the answer to a line
abbrev pub canned_turn : List (List ℕ) → Option ℕ → List ℕ → CannedTurn
canned_turn answers at line = canned_turn_by answers at (line_word line)

-- this was answered, and the card stands where the turn leaves it
pub record IsCannedTurn (at : Option ℕ) (text : List ℕ) (turn : CannedTurn) : Type 0 where
  pub answer_is : text ≡ turn.answer
  pub stands : at ≡ turn.after

-- lines that were answered one after the other from the first on, and how many answers were given since power-up behind them;
-- behind each another may follow
pub data CannedTalked (answers : List (List ℕ)) : List Turn → Option ℕ → Type 0 where
  begins : CannedTalked answers [] None
  goes : (turns : List Turn) (at : Option ℕ) (line : List ℕ) → CannedTalked answers turns at
      → CannedTalked answers (turns ++ record { line = line; answer = (canned_turn answers at line).answer; onward = Rests } ∷ []) (canned_turn answers at line).after

-- lines and answers are a talk of a card of these answers
abbrev pub IsCannedTalk : List (List ℕ) → List Turn → Type 0
IsCannedTalk answers turns = (at : Option ℕ) × CannedTalked answers turns at
