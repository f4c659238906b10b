-- The types of the messages and the fields of each, named by a bitmap (ISO 8583:1987; which fields a
-- message has is this profile's own).
use Rattle.std.specs.Prelude.{ℕ, ◌+◌, ◌*◌, Bool, ◌==◌, if◌then◌else◌, List, [], ◌∷◌, map, codes}
use Rattle.std.specs.List.{list_any}
use Rattle.iso_message.specs.declared.kind.CallKind.{CallKind}
use Rattle.iso_message.specs.declared.kind.CallKind.TheVariants.{Request, Presentment, Reversal}

-- the type of a call
abbrev pub call_type : CallKind → List ℕ
call_type Request = codes "0100"
call_type Presentment = codes "0220"
call_type Reversal = codes "0400"

-- the type of its reply
abbrev pub reply_type : CallKind → List ℕ
reply_type Request = codes "0110"
reply_type Presentment = codes "0230"
reply_type Reversal = codes "0410"

-- 1 where the field is among these, else 0
abbrev pub bit_of : List ℕ → ℕ → ℕ
bit_of fields number = (if list_any (λ field. field == number) fields then 1 else 0)

-- the bits of eight fields, the first one's the highest
abbrev pub bitmap_byte : List ℕ → ℕ → ℕ
bitmap_byte fields first =
    128 * bit_of fields first
    + 64 * bit_of fields (first + 1)
    + 32 * bit_of fields (first + 2)
    + 16 * bit_of fields (first + 3)
    + 8 * bit_of fields (first + 4)
    + 4 * bit_of fields (first + 5)
    + 2 * bit_of fields (first + 6)
    + bit_of fields (first + 7)

-- eight bytes whose bit n, the highest one of the first byte being bit 1, says whether field n follows
unfoldable pub bitmap : List ℕ → List ℕ
bitmap fields = map (bitmap_byte fields) (1 ∷ 9 ∷ 17 ∷ 25 ∷ 33 ∷ 41 ∷ 49 ∷ 57 ∷ [])

-- the fields of a request, with the PIN block or without it
abbrev pub request_numbers : Bool → List ℕ
request_numbers pin = 2 ∷ 3 ∷ 4 ∷ 11 ∷ 37 ∷ 41 ∷ 49 ∷ (if pin then 52 ∷ 55 ∷ [] else 55 ∷ [])

abbrev pub present_numbers : List ℕ
present_numbers = 2 ∷ 3 ∷ 4 ∷ 11 ∷ 37 ∷ 39 ∷ 41 ∷ 49 ∷ 55 ∷ []

abbrev pub reversal_numbers : List ℕ
reversal_numbers = 2 ∷ 4 ∷ 11 ∷ 37 ∷ 39 ∷ 41 ∷ 49 ∷ 55 ∷ []

abbrev pub reply_numbers : List ℕ
reply_numbers = 39 ∷ 55 ∷ []
