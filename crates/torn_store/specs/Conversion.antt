-- What a conversion makes of a state.
use Rattle.std.specs.Prelude.{ℕ, List, Option, unwrap_or}

-- the new state, or the old one where there is none
abbrev pub converted : (List ℕ → Option (List ℕ)) → List ℕ → List ℕ
converted means state = unwrap_or (means state) state
