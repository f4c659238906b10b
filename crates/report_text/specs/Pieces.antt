-- The pieces that lines are made of.
use Rattle.std.specs.Prelude.{ℕ, List, [], ◌∷◌, ◌+◌, map, codes}
use Rattle.std.specs.Int.{to_be_bytes, w16}
use Rattle.hex.specs.Hex.{encode_lower}

abbrev pub newline : List ℕ
newline = 10 ∷ []

-- bytes in hexadecimal, lower case; none are `-`
unfoldable pub hex_or_dash : List ℕ → List ℕ
hex_or_dash [] = codes "-"
hex_or_dash (b ∷ bs) = encode_lower (b ∷ bs)

-- digits 0 to 9 as characters
abbrev pub digits_text : List ℕ → List ℕ
digits_text digits = map (λ d. d + 48) digits

-- the two bytes of a 16-bit number
abbrev pub two_bytes : ℕ → List ℕ
two_bytes n = to_be_bytes w16 n
