-- The primary account number as the object 5A holds it: 13 to 19 digits of this profile, filled on the
-- right with F (EMV 4.3 Book 3 Annex A).
use Rattle.std.specs.Prelude.{ℕ, ◌+◌, ◌*◌, ◌==◌, Bool, not, nat_le, ◌&&◌, if◌then◌else◌, IsTrue, List, [], ◌∷◌, length, take, drop, find, Option, Some, None, Result, Ok, Err}
use Rattle.std.specs.List.{position_or_len}
use Rattle.std.specs.Option.{option_or}
use Rattle.emv_dict.specs.Nibbles.{nibbles, is_decimal}
use Rattle.emv_dict.specs.declared.pan.PanFault.{PanFault}
use Rattle.emv_dict.specs.declared.pan.PanFault.TheVariants.{NotDigit, Length}

-- the filler
abbrev pub is_filler : ℕ → Bool
is_filler nibble = nibble == 15

-- how many nibbles stand before the first filler
abbrev pub filler_place : List ℕ → ℕ
filler_place ns = position_or_len is_filler ns

-- the nibbles before the first filler
abbrev pub before_filler : List ℕ → List ℕ
before_filler ns = take (filler_place ns) ns

-- the nibbles from the first filler on
abbrev pub from_filler : List ℕ → List ℕ
from_filler ns = drop (filler_place ns) ns

-- the first nibble that is neither a digit before the filler nor filler behind it
abbrev pub stray_nibble : List ℕ → Option ℕ
stray_nibble ns = option_or (find (λ n. not (is_decimal n)) (before_filler ns)) (find (λ n. not (is_filler n)) (from_filler ns))

-- an account number of this profile has at least 13 digits, and as many as the object 5A holds at most
abbrev pub least_pan : ℕ
least_pan = 13

abbrev pub most_pan : ℕ
most_pan = 19

-- whether an account number of this profile has so many digits: 13 to 19
abbrev pub is_pan_length : ℕ → Bool
is_pan_length count = nat_le least_pan count && nat_le count most_pan

-- as many digits as an account number of this profile has: 13 to 19
abbrev pub HasPanLength : List ℕ → Type 0
HasPanLength digits = IsTrue (is_pan_length (length digits))

abbrev pub sized_pan : List ℕ → Result (List ℕ) PanFault
sized_pan digits = (if is_pan_length (length digits) then Ok digits else Err (Length (length digits)))

abbrev pub faultless_pan : List ℕ → Option ℕ → Result (List ℕ) PanFault
faultless_pan ns (Some nibble) = Err (NotDigit nibble)
faultless_pan ns None = sized_pan (before_filler ns)

-- the account number of a field, or the field's first fault
unfoldable pub pan_of : List ℕ → Result (List ℕ) PanFault
pan_of field = faultless_pan (nibbles field) (stray_nibble (nibbles field))

-- the digits two a byte in the fewest bytes, the last of an odd number with the filler behind
unfoldable pub pan_field : List ℕ → List ℕ
pan_field [] = []
pan_field (high ∷ []) = (high * 16 + 15) ∷ []
pan_field (high ∷ low ∷ rest) = (high * 16 + low) ∷ pan_field rest
