-- Decimal digits before the filler F, in words (format cn).
use Rattle.std.specs.Prelude.{ℕ, ◌+◌, ◌/◌, ◌%◌, ◌==◌, Bool, true, false, not, ◌&&◌, nat_le, if◌then◌else◌, List, [], ◌∷◌, ◌++◌, length, Option, Some, None}
use Rattle.std.specs.List.{flat_map}
use Rattle.report_lines.specs.Pieces.{Piece, number}
use Rattle.value_words.specs.Plain.{told_if}

-- whether a half byte may stand behind filler or none, and whether it is filler: digits stand before F
abbrev pub after_half : Bool → ℕ → Option Bool
after_half filler half = (if half == 15 then Some true else if nat_le half 9 && not filler then Some false else None)

-- the same behind the two half bytes of a byte
abbrev pub after_first : Option Bool → ℕ → Option Bool
after_first None half = None
after_first (Some filler) half = after_half filler half

abbrev pub after_byte : Bool → ℕ → Option Bool
after_byte filler byte = after_first (after_half filler (byte / 16)) (byte % 16)

abbrev pub filled_if : Option Bool → (Bool → Bool) → Bool
filled_if None more = false
filled_if (Some filler) more = more filler

-- digits, and F behind them
unfoldable pub are_filled : Bool → List ℕ → Bool
are_filled filler [] = true
are_filled filler (byte ∷ bytes) = filled_if (after_byte filler byte) (λ behind. are_filled behind bytes)

abbrev pub are_filled_digits : List ℕ → Bool
are_filled_digits value = not (length value == 0) && are_filled false value

-- how many half bytes are no filler
abbrev pub half_count : ℕ → ℕ
half_count half = (if half == 15 then 0 else 1)

unfoldable pub digit_count : List ℕ → ℕ
digit_count [] = 0
digit_count (byte ∷ bytes) = half_count (byte / 16) + half_count (byte % 16) + digit_count bytes

-- how many decimal digits stand before the filler
abbrev pub digits_in : List ℕ → Option ℕ
digits_in value = (if are_filled_digits value then Some (digit_count value) else None)

-- a half byte that is no filler
abbrev pub half_words : ℕ → List Piece
half_words half = (if half == 15 then [] else number half)

abbrev pub pair_words : ℕ → List Piece
pair_words byte = half_words (byte / 16) ++ half_words (byte % 16)

-- the digits without the filler
abbrev pub digits_words : List ℕ → Option (List Piece)
digits_words value = told_if (are_filled_digits value) (flat_map pair_words value)
