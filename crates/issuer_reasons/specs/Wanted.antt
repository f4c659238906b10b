-- What is to be approved, in words.
use Rattle.std.specs.Prelude.{ℕ, ◌%◌, List, unwrap_or}
use Rattle.std.specs.Int.{to_be_bytes, w16}
use Rattle.report_lines.specs.Pieces.{Piece, hex}
use Rattle.value_words.specs.Plain.{three_digits_words}

-- a currency: its three digits, or its bytes where it has other ones
abbrev pub currency_of_bytes : List ℕ → List Piece
currency_of_bytes bytes = unwrap_or (three_digits_words bytes) (hex bytes)

-- the same of a currency as the number of its two bytes
abbrev pub currency_words : ℕ → List Piece
currency_words currency = currency_of_bytes (to_be_bytes w16 (currency % 65536))
