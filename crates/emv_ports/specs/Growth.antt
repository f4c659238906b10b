-- What a sink holds after several pieces were handed to it one by one.
use Rattle.std.specs.Prelude.{◌≡◌, ℕ, List, ◌++◌}
use Rattle.std.specs.declared.option.Option.{Option}
use Rattle.std.specs.Io.KnownBytes.{Appends}

-- of the whole text, all but this rest was appended
pub record IsSoFar (old new : Option (List ℕ)) (rest whole : List ℕ) : Type 0 where
  pub done : List ℕ
  pub written : Appends old new done
  pub splits : done ++ rest ≡ whole

-- some front of this text was appended: all of it but some rest
pub record AppendsFront (old new : Option (List ℕ)) (text : List ℕ) : Type 0 where
  pub rest : List ℕ
  pub so_far : IsSoFar old new rest text
