-- The numbers of a generated scenario's purchases: a linear congruential generator, whose seed is number 0.
use Rattle.std.specs.Prelude.{ℕ, zero, suc, ◌+◌, ◌*◌, ◌%◌}

abbrev pub multiplier : ℕ
multiplier = 1103515245

abbrev pub increment : ℕ
increment = 12345

abbrev pub modulus : ℕ
modulus = 2147483648

abbrev pub next_generated : ℕ → ℕ
next_generated x = (x * multiplier + increment) % modulus

unfoldable pub generated_number : ℕ → ℕ → ℕ
generated_number seed zero = seed
generated_number seed (suc k) = next_generated (generated_number seed k)
