-- The pieces of a line, and the numbers that they write.
use Rattle.std.specs.Prelude.{ℕ, ◌+◌, ◌-◌, ◌*◌, ◌^◌, ◌==◌, Bool, not, ◌&&◌, nat_le, if◌then◌else◌, min, List, [], length, take, drop, position, Option, Some, None}
use Rattle.std.specs.List.{fold, list_all}

-- what stands before a place, and what stands behind it; all and nothing where there is no place
abbrev pub split_at_place : List ℕ → Option ℕ → List ℕ × List ℕ
split_at_place text None = (text, [])
split_at_place text (Some place) = (take place text, drop (place + 1) text)

-- what stands before the first byte of this value, and what stands behind it
unfoldable pub split_at : ℕ → List ℕ → List ℕ × List ℕ
split_at mark text = split_at_place text (position (λ byte. byte == mark) text)

-- the first word, up to a blank, and what stands behind the blank
abbrev pub split_word : List ℕ → List ℕ × List ℕ
split_word text = split_at 32 text

-- what stands before the first comma, and what stands behind it
abbrev pub split_comma : List ℕ → List ℕ × List ℕ
split_comma text = split_at 44 text

-- a decimal digit
abbrev pub is_ascii_digit : ℕ → Bool
is_ascii_digit byte = nat_le 48 byte && nat_le byte 57

-- the number of decimal digits, or the greatest of 64 bits where it is above that
abbrev pub digits_number : List ℕ → ℕ
digits_number digits = min (fold (λ n digit. n * 10 + (digit - 48)) 0 digits) (2 ^ 64 - 1)

-- the number of 1 to 18 decimal digits
unfoldable pub decimal_number : List ℕ → Option ℕ
decimal_number text = (if not (length text == 0) && (nat_le (length text) 18 && list_all is_ascii_digit text) then Some (digits_number text) else None)
