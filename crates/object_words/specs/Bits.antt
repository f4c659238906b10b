-- Values that are bits, in words.
use Rattle.std.specs.Prelude.{ℕ, ◌+◌, ◌-◌, ◌*◌, ◌==◌, true, not, if◌then◌else◌, List, [], ◌∷◌, ◌++◌, length, slice_index, codes, Option, Some, None}
use Rattle.std.specs.List.{list_any}
use Rattle.report_lines.specs.Pieces.{Piece, text, number, hex, word_or, reference_or_none}
use Rattle.report_lines.specs.Bits.{bits_told_from}
use Rattle.report_lines.specs.Tables.{word_in}
use Rattle.value_words.specs.Plain.{hex_words, told_if}

-- a bit as BYTE.BIT, by its place in its byte from 0 at the left
abbrev pub bit_number : ℕ → ℕ → List Piece
bit_number byte_number place = number byte_number ++ text (codes ".") ++ number (8 - place)

-- the bits of a byte that are set, each behind a blank
abbrev pub byte_bits : ℕ → ℕ → List Piece
byte_bits byte_number byte = bits_told_from 8 (text (codes " ")) (bit_number byte_number) byte true 0 8

-- the same of bytes that count from this number
abbrev pub bit_numbers_from : ℕ → List ℕ → List Piece
bit_numbers_from byte_number [] = []
bit_numbers_from byte_number (byte ∷ bytes) = byte_bits byte_number byte ++ bit_numbers_from (byte_number + 1) bytes

abbrev pub bit_numbers : List ℕ → List Piece
bit_numbers value = bit_numbers_from 1 value

-- bytes, and their bits that are set
abbrev pub bits_words : List ℕ → List Piece
bits_words value = hex_words value ++ (if list_any (λ byte. not (byte == 0)) value then text (codes ", bits") ++ bit_numbers value else [])

-- the words of a bit in a table, or BYTE.BIT where it has none, and where it stands
abbrev pub bit_word : List (ℕ × List ℕ) → List (ℕ × List ℕ) → ℕ → ℕ → List Piece
bit_word table references byte_number bit =
    word_or (number byte_number ++ text (codes ".") ++ number bit) (word_in table (byte_number * 10 + bit))
    ++ reference_or_none (word_in references (byte_number * 10 + bit))

abbrev pub word_at : List (ℕ × List ℕ) → List (ℕ × List ℕ) → ℕ → ℕ → List Piece
word_at table references byte_number place = bit_word table references byte_number (8 - place)

-- the words of a byte's bits that are set, each behind a comma
abbrev pub byte_words : List (ℕ × List ℕ) → List (ℕ × List ℕ) → ℕ → ℕ → List Piece
byte_words table references byte_number byte = bits_told_from 8 (text (codes ", ")) (word_at table references byte_number) byte true 0 8

abbrev pub bit_words_from : List (ℕ × List ℕ) → List (ℕ × List ℕ) → ℕ → List ℕ → List Piece
bit_words_from table references byte_number [] = []
bit_words_from table references byte_number (byte ∷ bytes) =
    byte_words table references byte_number byte ++ bit_words_from table references (byte_number + 1) bytes

abbrev pub bit_words : List (ℕ × List ℕ) → List (ℕ × List ℕ) → List ℕ → List Piece
bit_words table references value = bit_words_from table references 1 value

-- so many bytes, and the words of their bits
abbrev pub table_flags_words : List (ℕ × List ℕ) → List (ℕ × List ℕ) → ℕ → List ℕ → Option (List Piece)
table_flags_words table references count value = told_if (length value == count) (hex value ++ bit_words table references value)

abbrev pub behind_comma : Option (List ℕ) → List Piece
behind_comma None = []
behind_comma (Some word) = text (codes ", ") ++ text word

-- a byte, and its word in a table
abbrev pub coded_words : List (ℕ × List ℕ) → List ℕ → Option (List Piece)
coded_words table value = told_if (length value == 1) (hex value ++ behind_comma (word_in table (slice_index value 0)))
