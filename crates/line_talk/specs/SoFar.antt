-- How far a talk has come.
use Rattle.std.specs.Prelude.{◌≡◌, ℕ, ◌++◌, List, length, Option, Result, Ok, Err}
use Rattle.std.specs.Io.KnownBytes.{Appends, Consumes}
use Rattle.line_talk.specs.Talk.{TalkSinkCount, TalkSourceCount}
use Rattle.line_talk.specs.Turns.{Opening, Turn, answers_of, lines_spoken, onward_behind}
use Rattle.line_talk.specs.declared.party.Onward.{Onward}
use Rattle.line_talk.specs.declared.status.Status.{Status}

-- so many lines were read, and the opening and the answer to each were written
pub record IsTalkSoFar (Stands : List Turn → Type 0) (opening : Opening) (onward : Onward) (count : ℕ) (first left before held : Option (List ℕ)) : Type 0 where
  pub turns : List Turn
  pub counted : length turns ≡ count
  pub stands : Stands turns
  pub onward_is : onward_behind opening.onward turns ≡ onward
  pub taken : Consumes first left (lines_spoken turns)
  pub told : Appends before held (opening.text ++ answers_of turns)

-- the counts of faults over one line of a talk: how it goes on, or the status that it ends with
abbrev pub SourceStep : ℕ → ℕ → Result Onward Status → Type 0
SourceStep before now (Ok onward) = now ≡ before
SourceStep before now (Err status) = TalkSourceCount before now status

abbrev pub SinkStep : ℕ → ℕ → Result Onward Status → Type 0
SinkStep before now (Ok onward) = now ≡ before
SinkStep before now (Err status) = TalkSinkCount before now status
