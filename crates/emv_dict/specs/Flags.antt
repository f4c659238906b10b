-- The bits of the terminal verification results (EMV 4.3 Book 3 Annex C5) and of the transaction status information
-- (Annex C6; section 10.7). Bytes are counted from 1 at the left, and the bits of a byte from 8 at the left to 1.
use Rattle.std.specs.Prelude.{ℕ, ◌+◌, ◌-◌, ◌*◌, ◌^◌, ◌==◌, ◌≤◌, Bool, false, not, ◌||◌, ◌&&◌, if◌then◌else◌, List, [], ◌∷◌, codes, drop, bit_and, bit_or, slice_index, IsBitSet}
use Rattle.std.specs.Int.{to_be_bytes, w64, bit_at}
use Rattle.std.specs.List.{list_any}

-- the place of a bit, counted from 0 at the right, among so many bytes
abbrev pub place_among : ℕ → ℕ → ℕ → ℕ
place_among bytes byte bit = 8 * (bytes - byte) + (bit - 1)

-- the place of a bit of the terminal verification results, by its byte and its number there
abbrev pub tvr_place : ℕ → ℕ → ℕ
tvr_place byte bit = place_among 5 byte bit

-- the place of a bit of the transaction status information
abbrev pub tsi_place : ℕ → ℕ → ℕ
tsi_place byte bit = place_among 2 byte bit

-- the five bytes of the terminal verification results as one number in which this bit alone stands
abbrev pub tvr_bit : ℕ → ℕ → ℕ
tvr_bit byte bit = 2 ^ tvr_place byte bit

-- the two bytes of the transaction status information as one number in which this bit alone stands
abbrev pub tsi_bit : ℕ → ℕ → ℕ
tsi_bit byte bit = 2 ^ tsi_place byte bit

-- the five bytes of the terminal verification results that a number's low 40 bits are
abbrev pub tvr_bytes : ℕ → List ℕ
tvr_bytes tvr = drop 3 (to_be_bytes w64 tvr)

-- the named bits of the terminal verification results
abbrev pub tvr_bits : List (List ℕ × ℕ)
tvr_bits =
    (codes "OFFLINE_DATA_AUTHENTICATION_NOT_PERFORMED", tvr_bit 1 8)
    ∷ (codes "ICC_DATA_MISSING", tvr_bit 1 6)
    ∷ (codes "EXCEPTION_FILE", tvr_bit 1 5)
    ∷ (codes "VERSIONS_DIFFER", tvr_bit 2 8)
    ∷ (codes "EXPIRED", tvr_bit 2 7)
    ∷ (codes "NOT_YET_EFFECTIVE", tvr_bit 2 6)
    ∷ (codes "SERVICE_NOT_ALLOWED", tvr_bit 2 5)
    ∷ (codes "NEW_CARD", tvr_bit 2 4)
    ∷ (codes "VERIFICATION_NOT_SUCCESSFUL", tvr_bit 3 8)
    ∷ (codes "UNRECOGNISED_CVM", tvr_bit 3 7)
    ∷ (codes "PIN_TRY_LIMIT_EXCEEDED", tvr_bit 3 6)
    ∷ (codes "PIN_PAD_NOT_PRESENT_OR_NOT_WORKING", tvr_bit 3 5)
    ∷ (codes "PIN_NOT_ENTERED", tvr_bit 3 4)
    ∷ (codes "ONLINE_PIN_ENTERED", tvr_bit 3 3)
    ∷ (codes "FLOOR_LIMIT_EXCEEDED", tvr_bit 4 8)
    ∷ (codes "LOWER_CONSECUTIVE_LIMIT_EXCEEDED", tvr_bit 4 7)
    ∷ (codes "UPPER_CONSECUTIVE_LIMIT_EXCEEDED", tvr_bit 4 6)
    ∷ (codes "RANDOMLY_SELECTED", tvr_bit 4 5)
    ∷ (codes "MERCHANT_FORCED_ONLINE", tvr_bit 4 4)
    ∷ (codes "ISSUER_AUTHENTICATION_FAILED", tvr_bit 5 7)
    ∷ (codes "SCRIPT_FAILED_BEFORE_FINAL_CRYPTOGRAM", tvr_bit 5 6)
    ∷ (codes "SCRIPT_FAILED_AFTER_FINAL_CRYPTOGRAM", tvr_bit 5 5) ∷ []

-- the named bits of the transaction status information
abbrev pub tsi_bits : List (List ℕ × ℕ)
tsi_bits =
    (codes "CARDHOLDER_VERIFICATION", tsi_bit 1 7)
    ∷ (codes "CARD_RISK_MANAGEMENT", tsi_bit 1 6)
    ∷ (codes "ISSUER_AUTHENTICATION", tsi_bit 1 5)
    ∷ (codes "TERMINAL_RISK_MANAGEMENT", tsi_bit 1 4)
    ∷ (codes "SCRIPT_PROCESSING", tsi_bit 1 3) ∷ []

-- the bit of this number, of the byte of this number, stands in an object's bytes
abbrev pub StandsIn : List ℕ → ℕ → ℕ → Type 0
StandsIn bytes byte bit = IsBitSet (slice_index bytes (byte - 1)) (bit - 1)

-- from `least` to `most`
abbrev pub IsWithin : ℕ → ℕ → ℕ → Type 0
IsWithin least most n = (least ≤ n) × (n ≤ most)

-- whether some bit stands in both of two objects' bytes, which have the same number of bytes
abbrev pub have_common_bit : List ℕ → List ℕ → Bool
have_common_bit [] codes = false
have_common_bit (byte ∷ bytes) [] = false
have_common_bit (byte ∷ bytes) (code ∷ codes) = not (bit_and byte code == 0) || have_common_bit bytes codes

-- these bits, and those of the rows whose condition holds
abbrev pub bits_from : ℕ → List (Bool × ℕ) → ℕ
bits_from set [] = set
bits_from set ((holds, bits) ∷ rows) = bits_from (if holds then bit_or set bits else set) rows

-- the bits of the rows whose condition holds, as one number
abbrev pub bits_where : List (Bool × ℕ) → ℕ
bits_where rows = bits_from 0 rows

-- whether some row whose condition holds has the bit at this place, counted from 0 at the right
abbrev pub some_row_has : ℕ → List (Bool × ℕ) → Bool
some_row_has place rows = list_any (λ row. row.0 && (bit_at row.1 place == 1)) rows
