-- Decimal digits as characters of ASCII, and a content behind its length (ISO 8583:1987, attributes n and
-- LLVAR; a length of four digits is this profile's own).
use Rattle.std.specs.Prelude.{ℕ, zero, suc, ◌+◌, ◌*◌, ◌/◌, ◌%◌, Bool, ◌&&◌, nat_le, List, [], ◌∷◌, ◌++◌, length, map, replicate, slice_index}
use Rattle.std.specs.List.{list_all}

-- the characters of digits
abbrev pub digit_characters : List ℕ → List ℕ
digit_characters digits = map (λ digit. 48 + digit) digits

-- the digits of characters, each the low half of its character's byte
abbrev pub values : List ℕ → List ℕ
values characters = map (λ character. character % 16) characters

-- the character of a decimal digit
abbrev pub is_numeral : ℕ → Bool
is_numeral character = nat_le 48 character && nat_le character 57

abbrev pub are_numerals : List ℕ → Bool
are_numerals characters = list_all is_numeral characters

-- so many zeros
abbrev pub zeros : ℕ → List ℕ
zeros count = replicate count 48

-- the lowest decimal digits of a number, so many, the lowest one last
unfoldable pub decimal_digits : ℕ → ℕ → List ℕ
decimal_digits zero number = []
decimal_digits (suc count) number = decimal_digits count (number / 10) ++ number % 10 ∷ []

-- a content behind its length of so many digits
unfoldable pub with_length : ℕ → List ℕ → List ℕ
with_length count content = digit_characters (decimal_digits count (length content)) ++ content

-- a counter of two bytes in six digits
unfoldable pub counter_digits : List ℕ → List ℕ
counter_digits bytes = digit_characters (decimal_digits 6 (slice_index bytes 0 * 256 + slice_index bytes 1))
