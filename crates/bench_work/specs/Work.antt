-- What the benchmark computes.
use Rattle.std.specs.Prelude.{ℕ, zero, suc, List}

-- a function of a block, so many times over
unfoldable pub repeated : ℕ → (List ℕ → List ℕ) → List ℕ → List ℕ
repeated zero step block = block
repeated (suc n) step block = step (repeated n step block)
