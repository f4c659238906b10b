-- What is done with a list of messages, and what a lost call leaves of it.
use Rattle.std.specs.Prelude.{ℕ, ◌==◌, List, ◌∷◌, [], ◌++◌, drop, Bool, if◌then◌else◌, Option, Some, None}
use Rattle.emv_ports.specs.declared.tear.Tear.{Tear}
use Rattle.emv_ports.specs.declared.tear.TearAt.{TearAt}
use Rattle.emv_ports.specs.declared.tear.TearAt.TheVariants.{Before, Within, Release}

-- a message is added behind the others, or the first one is dropped
pub data Call : Type 0 where
  Adds : (message : List ℕ) → Call
  Drops : Call

-- the list behind a call
abbrev pub called : List (List ℕ) → Call → List (List ℕ)
called list (Adds message) = list ++ message ∷ []
called list Drops = drop 1 list

-- what an opening finds: the list with the lost call, or without it
abbrev pub list_found : List (List ℕ) → Option Call → Bool → List (List ℕ)
list_found list None found = list
list_found list (Some call) found = if found then called list call else list

-- a list, and a lost call that the next opening finds or doesn't
pub record CallLeft : Type 0 where
  pub list : List (List ℕ)
  pub lost : Option Call

-- What is left of a call that is cut: the list before it where its first write was cut before it began, the list behind
-- it where the release was cut, and at every other place either.
abbrev pub call_left_at : TearAt → List (List ℕ) → Call → CallLeft
call_left_at (Before number) list call = record { list = list; lost = if number == 1 then None else Some call }
call_left_at (Within number) list call = record { list = list; lost = Some call }
call_left_at Release list call = record { list = called list call; lost = None }

abbrev pub call_left_by : Option Tear → List (List ℕ) → Call → CallLeft
call_left_by None list call = record { list = list; lost = Some call }
call_left_by (Some tear) list call = call_left_at tear.at list call
