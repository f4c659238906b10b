-- Decimal digits, each as a number from 0 to 9 (EMV 4.3 Book 3 Annex A).
use Rattle.std.specs.Prelude.{ℕ, Bool, ◌≤◌, ◌&&◌, nat_le, IsTrue, List, length}
use Rattle.std.specs.List.{All}

-- the most digits that one value holds: a primary account number has at most 19 (EMV 4.3 Book 3 Annex A, tag 5A)
abbrev pub most_digits : ℕ
most_digits = 19

-- every number is a decimal digit
abbrev pub AllDecimal : List ℕ → Type 0
AllDecimal ds = All (λ d. d ≤ 9) ds

-- at most 19 decimal digits
abbrev pub AreDigits : List ℕ → Type 0
AreDigits ds = (length ds ≤ most_digits) × AllDecimal ds

-- a PIN has 4 to 12 digits (ISO 9564-1)
abbrev pub least_pin : ℕ
least_pin = 4

-- the most digits of a PIN: 12
abbrev pub most_pin : ℕ
most_pin = 12

-- whether a PIN has so many digits: 4 to 12
abbrev pub is_pin_length : ℕ → Bool
is_pin_length count = nat_le least_pin count && nat_le count most_pin

-- as many digits as a PIN has: 4 to 12
abbrev pub HasPinLength : List ℕ → Type 0
HasPinLength digits = IsTrue (is_pin_length (length digits))
