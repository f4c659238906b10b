-- The bytes that a text of a report writes.
use Rattle.std.specs.Prelude.{ℕ, ◌==◌, Bool, not, ◌||◌, nat_lt, if◌then◌else◌, List, [], length, codes, Option, Some, None, Result, Ok, Err}
use Rattle.std.specs.List.{list_all}
use Rattle.std.specs.Str.{bytes_eq}
use Rattle.hex.specs.Hex.{decode_of}
use Rattle.hex.specs.declared.error.FromHexError.{FromHexError}

-- `-` for none, else two hexadecimal digits a byte
unfoldable pub hex_in : List ℕ → Result (List ℕ) FromHexError
hex_in text = (if bytes_eq text (codes "-") then Ok [] else decode_of text)

-- no letter from A to F
abbrev pub is_lower : List ℕ → Bool
is_lower text = list_all (λ byte. nat_lt byte 65 || nat_lt 70 byte) text

abbrev pub decoded_hex : Result (List ℕ) FromHexError → Option (List ℕ)
decoded_hex (Ok bytes) = Some bytes
decoded_hex (Err fault) = None

-- the same in lower-case letters, where it writes bytes at all
unfoldable pub bytes_told : List ℕ → Option (List ℕ)
bytes_told text =
    if bytes_eq text (codes "-") then Some []
    else if length text == 0 || not (is_lower text) then None
    else decoded_hex (decode_of text)
