-- The lines of a talk and what answers each.
use Rattle.std.specs.Prelude.{◌≡◌, ℕ, Bool, true, false, List, [], ◌∷◌, ◌++◌}
use Rattle.std.specs.List.{flat_map}
use Rattle.line_talk.specs.declared.party.Onward.{Onward}
use Rattle.line_talk.specs.declared.party.Onward.TheVariants.{Awaits, Rests, Over, Stuck}

-- what a party says before the first line, with its newlines, and how it goes on
pub record Opening : Type 0 where
  pub text : List ℕ
  pub onward : Onward

-- a line without its newline, its answer with its newlines, and how it goes on
pub record Turn : Type 0 where
  pub line : List ℕ
  pub answer : List ℕ
  pub onward : Onward

-- the lines with their newlines, and their answers
abbrev pub lines_spoken : List Turn → List ℕ
lines_spoken turns = flat_map (λ turn. turn.line ++ 10 ∷ []) turns

abbrev pub answers_of : List Turn → List ℕ
answers_of turns = flat_map (λ turn. turn.answer) turns

-- how it goes on behind these lines
unfoldable pub onward_behind : Onward → List Turn → Onward
onward_behind onward [] = onward
onward_behind onward (turn ∷ turns) = onward_behind turn.onward turns

-- the lines may be at their end
abbrev pub may_end : Onward → Bool
may_end Awaits = false
may_end Rests = true
may_end Over = false
may_end Stuck = false

-- another line is read
abbrev pub GoesOn : Onward → Type 0
GoesOn Awaits = Unit {0}
GoesOn Rests = Unit {0}
GoesOn Over = ⊥
GoesOn Stuck = ⊥

-- a party that began as it did, and can have said nothing else
pub record IsSameParty (old new : Opening) (Before Now : List Turn → Type 0) : Type 0 where
  pub opening : new ≡ old
  pub back : (turns : List Turn) → Now turns → Before turns
