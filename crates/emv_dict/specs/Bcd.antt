-- Numbers in binary coded decimal: two decimal digits a byte (EMV 4.3 Book 3 section 4.3, format n).
use Rattle.std.specs.Prelude.{ℕ, zero, suc, ◌+◌, ◌*◌, ◌/◌, ◌%◌, ◌^◌, Bool, ◌&&◌, List, [], ◌∷◌, ◌++◌, length}
use Rattle.emv_dict.specs.Nibbles.{nibbles, is_decimal}

-- a byte of two decimal digits
abbrev pub has_digits : ℕ → Bool
has_digits byte = is_decimal (byte / 16) && is_decimal (byte % 16)

-- the number of a byte's two digits
abbrev pub number_of_bcd : ℕ → ℕ
number_of_bcd byte = byte / 16 * 10 + byte % 16

-- the byte of a number's two digits
abbrev pub two_digits : ℕ → ℕ
two_digits number = number / 10 * 16 + number % 10

-- the number of these digits, the first one the highest: each times its power of ten
abbrev pub number_of_digits : List ℕ → ℕ
number_of_digits [] = 0
number_of_digits (digit ∷ digits) = digit * 10 ^ length digits + number_of_digits digits

-- the number of two digits a byte; a half byte above 9 counts as its value
unfoldable pub number_in : List ℕ → ℕ
number_in bytes = number_of_digits (nibbles bytes)

-- so many bytes of two digits each, the lowest digits of the number last
unfoldable pub numeric : ℕ → ℕ → List ℕ
numeric zero number = []
numeric (suc count) number = numeric count (number / 100) ++ two_digits (number % 100) ∷ []
