-- What a step of a terminal makes of a card's answers, each a list of bytes, the first one first.
use Rattle.std.specs.Prelude.{◌≡◌, ℕ, List, ◌++◌}
use Rattle.emv_dict.specs.declared.ending.Cause.{Cause}

-- the command that it wants answered next, why it ends the transaction, or what it found and the answers behind
-- those that it took
pub data Progress (A : Type 0) : Type 0 where
  Wants : (command : List ℕ) → Progress A
  Stopped : (cause : Cause) → Progress A
  Done : (value : A) → (rest : List (List ℕ)) → Progress A

-- behind these answers the whole goes on as `start` does
abbrev pub Leads : {A : Type 0} → (List (List ℕ) → Progress A) → List (List ℕ) → (List (List ℕ) → Progress A) → Type 0
Leads whole answers start = (later : List (List ℕ)) → whole (answers ++ later) ≡ start later
