-- Decimal digits as characters of ASCII, and the numbers that they write.
use Rattle.std.specs.Prelude.{ℕ, ◌-◌, ◌==◌, Bool, true, false, not, nat_le, if◌then◌else◌, List, [], ◌∷◌, length, Option, Some, None}
use Rattle.std.specs.Char.{is_ascii_digit}
use Rattle.std.specs.Option.{option_map}
use Rattle.std.specs.Str.{all_ascii_digits}
use Rattle.std.specs.Str.Parse.{digits_value}
use Rattle.emv_dict.specs.Digits.{is_pin_length}

-- one digit more at the front
abbrev pub digit_before : ℕ → Option (List ℕ) → Option (List ℕ)
digit_before digit digits = option_map (λ ds. digit ∷ ds) digits

-- the digits of a text of digits alone, each as a number
abbrev pub digit_values : List ℕ → Option (List ℕ)
digit_values [] = Some []
digit_values (c ∷ cs) = (if is_ascii_digit c then digit_before (c - 48) (digit_values cs) else None)

-- the digits of a PIN, as many as one has
unfoldable pub pin_in_text : List ℕ → Option (List ℕ)
pin_in_text text = (if is_pin_length (length text) then digit_values text else None)

-- one character at least, and more only where the first is not `0`
abbrev pub is_shortest : List ℕ → Bool
is_shortest [] = false
is_shortest (c ∷ []) = true
is_shortest (c ∷ d ∷ cs) = not (c == 48)

-- a number up to the limit
abbrev pub limited : ℕ → ℕ → Option ℕ
limited most number = (if nat_le number most then Some number else None)

-- the number that a text of digits alone writes, up to the limit
abbrev pub number_up_to : ℕ → List ℕ → Option ℕ
number_up_to most text = (if all_ascii_digits text then limited most (digits_value 10 text) else None)

-- the number that a text writes in decimal without leading zeros, up to the limit
unfoldable pub numeral_of : ℕ → List ℕ → Option ℕ
numeral_of most text = (if is_shortest text then number_up_to most text else None)
