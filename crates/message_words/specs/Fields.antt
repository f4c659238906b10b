-- The fields of messages in the style of ISO 8583:1987: which ones a bitmap names, and where each ends.
use Rattle.std.specs.Prelude.{ℕ, ◌+◌, ◌-◌, ◌*◌, ◌/◌, ◌%◌, ◌==◌, Bool, ◌&&◌, ◌||◌, nat_le, if◌then◌else◌, List, [], ◌∷◌, length, take, drop, filter, slice_index, Option, Some, None}
use Rattle.std.specs.Int.{bit_at}
use Rattle.std.specs.List.{range_with_len}
use Rattle.report_lines.specs.Parts.{is_ascii_digit}

-- the number of two decimal digits, and of four
abbrev pub two_digits_number : ℕ → ℕ → Option ℕ
two_digits_number high low = (if is_ascii_digit high && is_ascii_digit low then Some ((high - 48) * 10 + (low - 48)) else None)

abbrev pub two_pairs : Option ℕ → Option ℕ → Option ℕ
two_pairs None low = None
two_pairs (Some high) None = None
two_pairs (Some high) (Some low) = Some (high * 100 + low)

abbrev pub four_digits : List ℕ → Option ℕ
four_digits digits =
    if length digits == 4
    then two_pairs (two_digits_number (slice_index digits 0) (slice_index digits 1)) (two_digits_number (slice_index digits 2) (slice_index digits 3))
    else None

-- so many bytes, and those behind them
abbrev pub front_and_rest : Option ℕ → List ℕ → Option (List ℕ × List ℕ)
front_and_rest None bytes = None
front_and_rest (Some count) bytes = (if nat_le count (length bytes) then Some (take count bytes, drop count bytes) else None)

-- the content of a field with its length before it, in two digits or four
abbrev pub counted_content : List ℕ → Option (List ℕ × List ℕ)
counted_content bytes = (if nat_le 2 (length bytes) then front_and_rest (two_digits_number (slice_index bytes 0) (slice_index bytes 1)) (drop 2 bytes) else None)

abbrev pub cut_long : List ℕ → Option (List ℕ × List ℕ)
cut_long bytes = (if nat_le 4 (length bytes) then front_and_rest (four_digits (take 4 bytes)) (drop 4 bytes) else None)

-- the fields that always have the same length
abbrev pub fixed_length : ℕ → Option ℕ
fixed_length number =
    if number == 3 || number == 11 then Some 6
    else if number == 4 || number == 37 then Some 12
    else if number == 39 then Some 2
    else if number == 41 || number == 52 then Some 8
    else if number == 49 then Some 3
    else None

-- the content of a field of this number, and what stands behind it
unfoldable pub cut_field : ℕ → List ℕ → Option (List ℕ × List ℕ)
cut_field number bytes =
    if number == 2 then counted_content bytes
    else if number == 55 then cut_long bytes
    else front_and_rest (fixed_length number) bytes

-- the bitmap has a bit for each field, that of field 1 the leftmost
unfoldable pub has_field_bit : List ℕ → ℕ → Bool
has_field_bit bitmap number = bit_at (slice_index bitmap ((number - 1) / 8)) (7 - (number - 1) % 8) == 1

-- the fields from a number to 64 that it names
abbrev pub named_from : List ℕ → ℕ → List ℕ
named_from bitmap number = filter (has_field_bit bitmap) (range_with_len number (65 - number))

-- these fields with their contents, one behind the other, up to the first one that can't be taken apart
abbrev pub with_content : ℕ → Option (List ℕ × List ℕ) → (List ℕ → List (ℕ × List ℕ)) → List (ℕ × List ℕ)
with_content number None more = []
with_content number (Some parts) more = (number, parts.0) ∷ more parts.1

unfoldable pub field_contents : List ℕ → List ℕ → List (ℕ × List ℕ)
field_contents [] bytes = []
field_contents (number ∷ numbers) bytes = with_content number (cut_field number bytes) (field_contents numbers)

-- the first field that the bitmap names is 39, the response code: none of 1 to 38 is
abbrev pub begins_with_code : List ℕ → Bool
begins_with_code bitmap =
    nat_le 5 (length bitmap) && (slice_index bitmap 0 == 0 && (slice_index bitmap 1 == 0 && (slice_index bitmap 2 == 0
    && (slice_index bitmap 3 == 0 && slice_index bitmap 4 / 2 == 1))))
