-- Numbers in decimal digits.
use Rattle.std.specs.Prelude.{ℕ, ◌+◌, ◌-◌, ◌*◌, nat_le, ◌&&◌, List, [], ◌∷◌, Option, Some, None, if◌then◌else◌}
use Rattle.std.specs.List.{fold}

-- a number with one more digit, where the byte is one and the number is at most so great
abbrev pub with_digit : ℕ → ℕ → ℕ → Option ℕ
with_digit most number byte =
    if nat_le 48 byte && nat_le byte 57 then (if nat_le (number * 10 + (byte - 48)) most then Some (number * 10 + (byte - 48)) else None) else None

abbrev pub next_digit : ℕ → Option ℕ → ℕ → Option ℕ
next_digit most None byte = None
next_digit most (Some number) byte = with_digit most number byte

abbrev pub digits_spelled : ℕ → List ℕ → Option ℕ
digits_spelled most digits = fold (next_digit most) (Some 0) digits

-- at least one digit, and nothing else
unfoldable pub digits_up_to : ℕ → List ℕ → Option ℕ
digits_up_to most [] = None
digits_up_to most (byte ∷ bytes) = digits_spelled most (byte ∷ bytes)
