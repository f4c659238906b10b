-- Bytes in upper-case hexadecimal.
use Rattle.std.specs.Prelude.{ℕ, ◌+◌, ◌/◌, ◌%◌, nat_lt, if◌then◌else◌, List, [], ◌∷◌}

-- the digit of a number from 0 to 15
abbrev pub digit_text : ℕ → ℕ
digit_text number = (if nat_lt number 10 then number + 48 else number + 55)

-- the two digits of a byte
abbrev pub pair_text : ℕ → List ℕ
pair_text byte = digit_text (byte / 16) ∷ digit_text (byte % 16) ∷ []
