-- One number more.
use Rattle.std.proofs.Common.{◌≡◌, ◌+◌, ℕ, suc, arith, ap}
use Rattle.generated.specs.Numbers.{next_generated, generated_number}

pub number_more : (seed k : ℕ) → generated_number seed (k + 1) ≡ next_generated (generated_number seed k)
unfolding generated_number
number_more seed k = let e : k + 1 ≡ suc k = omega arith in ap (generated_number seed) e
