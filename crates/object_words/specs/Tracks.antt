-- Track 2 equivalent data in words: an account number, D, the year and month of expiry, a service code, discretionary digits,
-- and F where the half bytes are odd (EMV 4.3 Book 3 Annex A, tag 57).
use Rattle.std.specs.Prelude.{ℕ, suc, ◌+◌, ◌-◌, ◌*◌, ◌==◌, Bool, ◌&&◌, ◌||◌, nat_le, nat_lt, if◌then◌else◌, List, [], ◌∷◌, ◌++◌, length, drop, slice_index, codes, Option, None}
use Rattle.std.specs.List.{flat_map, range_with_len}
use Rattle.emv_dict.specs.Nibbles.{nibbles}
use Rattle.report_lines.specs.Pieces.{Piece, text, number}
use Rattle.value_words.specs.Plain.{told_if}

-- how many decimal digits stand first
unfoldable pub leading_digits : List ℕ → ℕ
leading_digits [] = 0
leading_digits (half ∷ halves) = (if nat_le half 9 then suc (leading_digits halves) else 0)

-- the place behind the decimal digits that stand from a place on
abbrev pub digits_end : List ℕ → ℕ → ℕ
digits_end value from = from + leading_digits (drop from (nibbles value))

-- this half byte stands at a place
abbrev pub has_half : List ℕ → ℕ → ℕ → Bool
has_half value place half = nat_lt place (2 * length value) && slice_index (nibbles value) place == half

-- nothing stands from a place on, or F alone
abbrev pub ends_at : List ℕ → ℕ → Bool
ends_at value place = place == 2 * length value || (place + 1 == 2 * length value && has_half value place 15)

-- an account number of so many digits, and digits behind D that end before this place
abbrev pub is_track : List ℕ → ℕ → ℕ → Bool
is_track value pan end = nat_le 1 pan && (nat_le pan 19 && (nat_le (pan + 8) end && ends_at value end))

-- so many digits from a place on
unfoldable pub half_digits : List ℕ → ℕ → ℕ → List Piece
half_digits value from count = flat_map (λ place. number (slice_index (nibbles value) place)) (range_with_len from count)

-- the same behind these words
abbrev pub part_words : List ℕ → List ℕ → ℕ → ℕ → List Piece
part_words words value from count = text words ++ half_digits value from count

abbrev pub discretionary_words : List ℕ → ℕ → ℕ → List Piece
discretionary_words value from count = (if count == 0 then [] else part_words (codes ", discretionary data ") value from count)

-- what stands behind an account number of so many digits
abbrev pub behind_pan : List ℕ → ℕ → ℕ → List Piece
behind_pan value pan end =
    part_words (codes ", expires ") value (pan + 1) 2 ++ part_words (codes "-") value (pan + 3) 2
    ++ part_words (codes ", service code ") value (pan + 5) 3 ++ discretionary_words value (pan + 8) (end - (pan + 8))

abbrev pub parts_of_track : List ℕ → ℕ → ℕ → Option (List Piece)
parts_of_track value pan end =
    told_if (is_track value pan end) (part_words (codes "PAN ") value 0 pan ++ behind_pan value pan end)

abbrev pub separated_track : List ℕ → ℕ → Option (List Piece)
separated_track value pan = parts_of_track value pan (digits_end value (pan + 1))

-- track 2 in its parts
abbrev pub track_words : List ℕ → Option (List Piece)
track_words value =
    let pan = digits_end value 0 in
    if has_half value pan 13 then separated_track value pan else None
