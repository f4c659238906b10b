-- Commands of issuer scripts in words (EMV 4.3 Book 3 section 6.5).
use Rattle.std.specs.Prelude.{ℕ, ◌%◌, ◌^◌, ◌==◌, ◌&&◌, nat_le, nat_lt, if◌then◌else◌, List, [], ◌∷◌, ◌++◌, length, slice_index, take, drop, codes, Option, Some, None, map, unwrap_or}
use Rattle.report_lines.specs.Pieces.{Piece, text, number, hex}
use Rattle.emv_dict.specs.Bcd as bcd
use Rattle.report_lines.specs.Tables.{word_in}
use Rattle.value_words.specs.declared.codes.TheConstants.{SCRIPT_COMMANDS}
use Rattle.value_words.specs.Plain.{binary_number, all_digits}
use Rattle.object_words.specs.declared.phrases.TheConstants.{NO_SCRIPT_COMMAND}

-- PUT DATA of the limit of the number of offline approvals: one byte behind the length 09
abbrev pub count_limit : List ℕ → List Piece
count_limit rest = (if nat_le 2 (length rest) && slice_index rest 0 == 9 then text (codes " ") ++ number (slice_index rest 1) else [])

-- the six bytes behind the length
abbrev pub limit_digits : List ℕ → List ℕ
limit_digits rest =
    slice_index rest 1 ∷ slice_index rest 2 ∷ slice_index rest 3 ∷ slice_index rest 4 ∷ slice_index rest 5 ∷ slice_index rest 6 ∷ []

-- of the limit of their sum: twelve digits behind the length 0E
abbrev pub sum_limit : List ℕ → List Piece
sum_limit rest =
    if nat_le 7 (length rest) && (slice_index rest 0 == 14 && all_digits (limit_digits rest))
    then text (codes " ") ++ number (bcd.number_in (limit_digits rest)) else []

abbrev pub limit_words : ℕ → List ℕ → List Piece
limit_words header rest = (if header == 0x04DADF01 then count_limit rest else if header == 0x04DADF02 then sum_limit rest else [])

-- the four bytes of the header as one number
abbrev pub header_number : List ℕ → ℕ
header_number command = binary_number (take 4 command) % 2 ^ 32

abbrev pub named_words : List ℕ → Option (List ℕ) → Option (List Piece)
named_words command None = None
named_words command (Some word) = Some (text word ++ limit_words (header_number command) (drop 4 command))

-- a command by its name, where it has one
abbrev pub script_command_words : List ℕ → Option (List Piece)
script_command_words command =
    if nat_lt (length command) 4 then None
    else named_words command (word_in (map (λ w. (w.0, w.1.now)) SCRIPT_COMMANDS) (header_number command))

-- its bytes and its name
abbrev pub command_words : List ℕ → List Piece
command_words value = hex value ++ text (codes ": ") ++ unwrap_or (script_command_words value) (text NO_SCRIPT_COMMAND.now)
