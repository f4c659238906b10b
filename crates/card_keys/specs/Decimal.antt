-- Decimal digits of a hash, EMV 4.3 Book 2 Annex A1.4.2, the last step of option B.
use Rattle.std.specs.Prelude.{ℕ, ◌-◌, Bool, not, List, ◌++◌, map, take}
use Rattle.std.specs.List.{filter}
use Rattle.emv_dict.specs.Nibbles.{nibbles, packed, is_decimal}

-- a hexadecimal digit from A to F
abbrev pub is_letter : ℕ → Bool
is_letter digit = not (is_decimal digit)

-- A to F as 0 to 5
abbrev pub less_ten : ℕ → ℕ
less_ten digit = digit - 10

-- the decimal ones of hexadecimal digits, in their order
abbrev pub decimals_of : List ℕ → List ℕ
decimals_of digits = filter is_decimal digits

-- the decimal ones in their order, and then the others in theirs
abbrev pub as_decimal : List ℕ → List ℕ
as_decimal digits = decimals_of digits ++ map less_ten (filter is_letter digits)

-- the first sixteen of these
unfoldable pub decimalised : List ℕ → List ℕ
decimalised hash = packed (take 16 (as_decimal (nibbles hash)))
