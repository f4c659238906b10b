-- The rules of an application's other keys (EMV 4.3 Book 1 section 12.2.1, Book 3 section 5.3; ISO 9564-1).
use Rattle.std.specs.Prelude.{ℕ, Bool, true, false, not, nat_le, ◌==◌, ◌&&◌, ◌||◌, List, [], ◌∷◌, length, take, drop, replicate, slice_index, Option, Some, None}
use Rattle.std.specs.List.{list_all, list_any}
use Rattle.std.specs.Str.{bytes_eq}
use Rattle.card_state.specs.declared.state.AppState.{AppState}
use Rattle.emv_dict.specs.Digits.{is_pin_length}
use Rattle.emv_dict.specs.Nibbles.{nibbles, is_decimal}
use Rattle.emv_dict.specs.Settings.{is_code, most_amount}
use Rattle.pin_block.specs.Block.{block_of}
use Rattle.card_files.specs.Files.{has_record_of}
use Rattle.card_files.specs.Views.{RecordData}

-- from `least` to `most`
abbrev pub is_within : ℕ → ℕ → ℕ → Bool
is_within least most n = nat_le least n && nat_le n most

abbrev pub has_size : {A : Type 0} → ℕ → ℕ → List A → Bool
has_size least most xs = is_within least most (length xs)

-- an application's name: the five bytes of a registered provider, and up to eleven of its own
abbrev pub is_name : List ℕ → Bool
is_name bytes = has_size 5 16 bytes

-- a printable character of ASCII
abbrev pub is_printable : ℕ → Bool
is_printable c = is_within 32 126 c

-- a label of 1 to 16 printable characters
abbrev pub is_label : List ℕ → Bool
is_label text = has_size 1 16 text && list_all is_printable text

-- 62 entries of four bytes
abbrev pub most_afl : ℕ
most_afl = 248

-- a locator of at most 248 bytes
abbrev pub is_afl : List ℕ → Bool
is_afl bytes = nat_le (length bytes) most_afl

-- the format of an answer is 1 or 2
abbrev pub is_format : ℕ → Bool
is_format n = n == 1 || n == 2

-- a record's file, its number and its size
abbrev pub is_record : RecordData → Bool
is_record r = is_within 1 30 r.sfi && (is_within 1 255 r.number && has_size 1 256 r.bytes)

-- the two records have one number in one file: the pair is there twice
abbrev pub is_pair : RecordData → RecordData → Bool
is_pair r s = r.sfi == s.sfi && r.number == s.number

-- whether two records have one number in one file
abbrev pub has_twins : List RecordData → Bool
has_twins [] = false
has_twins (r ∷ rs) = list_any (is_pair r) rs || has_twins rs

abbrev pub most_image_records : ℕ
most_image_records = 64

-- each in its limits, and no pair twice
abbrev pub are_apart : List RecordData → Bool
are_apart rs = list_all is_record rs && not (has_twins rs)

-- and not too many
abbrev pub are_records : List RecordData → Bool
are_records rs = nat_le (length rs) most_image_records && are_apart rs

-- the PIN that a block of format 2 spells: the second digit is its size, and its digits stand behind
abbrev pub spelled_pin : List ℕ → List ℕ
spelled_pin bytes = take (slice_index (nibbles bytes) 1) (drop 2 (nibbles bytes))

-- eight bytes are the block of format 2 of a PIN of 4 to 12 digits
abbrev pub is_plain_block : List ℕ → Bool
is_plain_block bytes =
    is_pin_length (length (spelled_pin bytes)) && (list_all is_decimal (spelled_pin bytes) && bytes_eq (block_of 2 (spelled_pin bytes)) bytes)

-- the block of a PIN, or eight zero bytes where there is none
abbrev pub is_reference_pin : List ℕ → Bool
is_reference_pin bytes = bytes_eq bytes (replicate 8 0) || is_plain_block bytes

-- the block of a PIN, or zeros for none
abbrev pub reference_pin : Option (List ℕ) → List ℕ
reference_pin None = replicate 8 0
reference_pin (Some pin) = block_of 2 pin

-- at most 12 decimal digits
abbrev pub is_sum_limit : ℕ → Bool
is_sum_limit n = nat_le n most_amount

-- a number of four bits
abbrev pub is_tries : ℕ → Bool
is_tries n = nat_le n 15

-- the most rows of a transaction log
abbrev pub most_rows : ℕ
most_rows = 10

-- no more rows than a transaction log has at most
abbrev pub is_log_size : ℕ → Bool
is_log_size n = nat_le n most_rows

-- the log's file: none of those that a terminal reads for a transaction, and none with records of its own
abbrev pub is_log_file : ℕ → ℕ → List RecordData → Bool
is_log_file log sfi rs = is_within 11 30 sfi && (log == 0 || not (has_record_of sfi rs))

-- where there is a second currency, it is not the first one
abbrev pub is_second_code : List ℕ → Option (List ℕ) → Bool
is_second_code first None = true
is_second_code first (Some code) = is_code code && not (bytes_eq code first)

-- nothing is counted or logged yet, no issuer authentication has failed, and all tries are left
abbrev pub is_unused : ℕ → AppState → Bool
is_unused tries s =
    (s.count == 0) && ((s.sum == 0) && ((s.sum_two == 0) && ((length s.log.items == 0) && (not s.auth_failed && (s.tries == tries)))))

-- and the second limit and the log's size are these
abbrev pub is_opening : ℕ → ℕ → ℕ → AppState → Bool
is_opening tries limit_two log s = is_unused tries s && ((s.limit_two == limit_two) && (s.log_max == log))
