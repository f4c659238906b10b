-- Values that are numbers, digits or characters, in words: none where a value is of another length or content.
use Rattle.std.specs.Prelude.{ℕ, ◌+◌, ◌*◌, ◌%◌, ◌^◌, ◌-◌, ◌==◌, Bool, not, ◌&&◌, nat_le, if◌then◌else◌, min, List, [], ◌∷◌, ◌++◌, length, slice_index, codes, Option, Some, None, unwrap_or}
use Rattle.std.specs.List.{fold, list_all}
use Rattle.report_lines.specs.Pieces.{Piece, text, number, hex}
use Rattle.emv_dict.specs.Bcd as bcd
use Rattle.emv_dict.specs.Date.{date_of}
use Rattle.emv_dict.specs.declared.date.Date.{Date}
use Rattle.value_words.specs.declared.phrases.TheConstants.{CONFIRM}

-- the number of these bytes, the first one the highest; the greatest of 64 bits where it is above that
abbrev pub binary_number : List ℕ → ℕ
binary_number bytes = min (fold (λ n byte. n * 256 + byte) 0 bytes) (2 ^ 64 - 1)

-- bytes in hexadecimal, or `-` where there are none
abbrev pub hex_words : List ℕ → List Piece
hex_words bytes = (if length bytes == 0 then text (codes "-") else hex bytes)

-- what is told, nothing where there are no words
abbrev pub or_nothing : Option (List Piece) → List Piece
or_nothing words = unwrap_or words []

-- words under a condition
abbrev pub told_if : Bool → List Piece → Option (List Piece)
told_if holds words = (if holds then Some words else None)

-- two decimal digits in each byte
abbrev pub all_digits : List ℕ → Bool
all_digits value = list_all bcd.has_digits value

-- a character that is told as it is
abbrev pub is_told_as_is : ℕ → Bool
is_told_as_is byte = nat_le 32 byte && nat_le byte 126

-- printable characters
abbrev pub text_words : List ℕ → Option (List Piece)
text_words value = told_if (not (length value == 0) && list_all is_told_as_is value) (text value)

-- a number of one to four bytes
abbrev pub number_words : List ℕ → Option (List Piece)
number_words value = told_if (not (length value == 0) && nat_le (length value) 4) (number (binary_number value))

-- an amount of twelve digits, without leading zeros (format n 12)
abbrev pub amount_words : List ℕ → Option (List Piece)
amount_words value = told_if (all_digits value && length value == 6) (number (bcd.number_in value))

-- the three digits of a country or a currency (format n 3)
abbrev pub three_digits_words : List ℕ → Option (List Piece)
three_digits_words value = told_if (all_digits value && length value == 2) (number (slice_index value 0 % 16) ++ hex (slice_index value 1 ∷ []))

abbrev pub date_told : ℕ → ℕ → Option Date → Option (List Piece)
date_told month day None = None
date_told month day (Some date) = Some (number date.year ++ text (codes "-") ++ hex (month ∷ []) ++ text (codes "-") ++ hex (day ∷ []))

-- year with its century, month and day (format n 6)
abbrev pub date_words : List ℕ → Option (List Piece)
date_words value = (if length value == 3 then date_told (slice_index value 1) (slice_index value 2) (date_of value) else None)

-- hour, minute and second (format n 6)
abbrev pub time_words : List ℕ → Option (List Piece)
time_words value =
    told_if (all_digits value && length value == 3)
    (hex (slice_index value 0 ∷ []) ++ text (codes ":") ++ hex (slice_index value 1 ∷ []) ++ text (codes ":") ++ hex (slice_index value 2 ∷ []))

abbrev pub log_words : ℕ → ℕ → List Piece
log_words file records = text (codes "file ") ++ number file ++ text (codes ", at most ") ++ number records ++ text (codes " records")

-- the file of a log and how many records it has at most
abbrev pub log_entry_words : List ℕ → Option (List Piece)
log_entry_words value = told_if (length value == 2) (log_words (slice_index value 0) (slice_index value 1))

abbrev pub rank_words : ℕ → List Piece
rank_words rank = (if rank == 0 then text (codes "none") else number rank)

abbrev pub confirm_words : ℕ → List Piece
confirm_words byte = (if nat_le 128 byte then text CONFIRM.now else [])

-- the rank of an application in the low half byte, and whether the cardholder must confirm it (EMV 4.3 Book 1 section 12.2.3)
abbrev pub priority_words : List ℕ → Option (List Piece)
priority_words value = told_if (length value == 1) (rank_words (slice_index value 0 % 16) ++ confirm_words (slice_index value 0))
