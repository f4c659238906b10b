-- What a line asks of an issuer's host (this project's own).
use Rattle.std.specs.Prelude.{ℕ, ◌-◌, ◌==◌, ◌||◌, ◌&&◌, ◌≤◌, nat_lt, nat_le, Bool, true, false, if◌then◌else◌, List, map, length, codes, Option, Some, None, Result, Ok, Err}
use Rattle.std.specs.Str.{bytes_eq}
use Rattle.hex.specs.Hex.{decode_of}
use Rattle.hex.specs.declared.error.FromHexError.{FromHexError}
use Rattle.iso_message.specs.Text.{are_numerals}
use Rattle.line_talk.specs.Preamble.{behind_mark}
use Rattle.host_at_lines.specs.declared.word.Word.{Word}
use Rattle.host_at_lines.specs.declared.word.Word.TheVariants.{Message, Balance, Accounts, Because, Other}

-- a message of 1 to 2,048 bytes
abbrev pub limited_message : Bool → List ℕ → Word
limited_message iso bytes = if length bytes == 0 || nat_lt 2048 (length bytes) then Other else Message iso (record { items = bytes })

-- one in hexadecimal
abbrev pub message_word : Bool → Result (List ℕ) FromHexError → Word
message_word iso (Err fault) = Other
message_word iso (Ok bytes) = limited_message iso bytes

abbrev pub numeral_values : List ℕ → List ℕ
numeral_values text = map (λ c. c - 48) text

-- at most 19 digits
abbrev pub balance_word : List ℕ → Word
balance_word text = if nat_le (length text) 19 && are_numerals text then Balance (numeral_values text) else Other

abbrev pub word_behind : {A : Type 0} → Option (List ℕ) → (List ℕ → A) → A → A
word_behind None found other = other
word_behind (Some rest) found other = found rest

-- what a line asks
unfoldable pub host_word : List ℕ → Word
host_word line =
    if bytes_eq line (codes "accounts") then Accounts
    else if bytes_eq line (codes "because") then Because
    else word_behind (behind_mark (codes "balance ") line) balance_word
    (word_behind (behind_mark (codes "iso > ") line) (λ text. message_word true (decode_of text))
    (word_behind (behind_mark (codes "> ") line) (λ text. message_word false (decode_of text)) Other))

-- a message that is asked for has at most 2,048 bytes
abbrev pub IsShort : Word → Type 0
IsShort (Message iso bytes) = length bytes.items ≤ 2048
IsShort (Balance pan) = Unit {0}
IsShort Accounts = Unit {0}
IsShort Because = Unit {0}
IsShort Other = Unit {0}
