-- What was read of a source: all that it had left, or its first bytes up to a limit.
use Rattle.std.specs.Prelude.{ℕ, List, ◌<◌, ◌≤◌, length}
use Rattle.std.specs.declared.option.Option.{Option}
use Rattle.std.specs.Io.KnownBytes.{Consumes, IsAtEnd}

-- these bytes were read of a source: all that it had left, or as many as the limit says
pub record ReadsUpTo (most : ℕ) (old new : Option (List ℕ)) (bytes : List ℕ) : Type 0 where
  -- the source began with these bytes, and lost them
  pub taken : Consumes old new bytes
  pub within : length bytes ≤ most
  -- fewer than the limit are all that there was
  pub end : length bytes < most → IsAtEnd new
