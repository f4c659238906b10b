-- What a line says to a card in a reader (this project's own).
use Rattle.std.specs.Prelude.{ℕ, ◌==◌, ◌||◌, nat_lt, if◌then◌else◌, List, length, codes, Option, Some, None, option_map, Result, Ok, Err}
use Rattle.std.specs.Str.{bytes_eq}
use Rattle.emv_ports.specs.declared.tear.Tear.{Tear}
use Rattle.emv_ports.specs.declared.tear.TearAt.{TearAt}
use Rattle.emv_ports.specs.declared.tear.TearAt.TheVariants.{Before, Within, Release}
use Rattle.hex.specs.Hex.{decode_of}
use Rattle.hex.specs.declared.error.FromHexError.{FromHexError}
use Rattle.report_lines.specs.Parts.{split_word}
use Rattle.line_talk.specs.Preamble.{behind_mark}
use Rattle.line_talk.specs.Numbers.{digits_up_to}
use Rattle.card_at_reader.specs.declared.word.Order.TheVariants.{Power, Off, Command, Pull}
use Rattle.card_at_reader.specs.declared.word.Question.TheVariants.{State, Torn as TornAsked, Decided as DecidedAsked, Why}
use Rattle.card_at_reader.specs.declared.word.Word.{Word}
use Rattle.card_at_reader.specs.declared.word.Word.TheVariants.{Does, Asks, Other}

-- the number of a write, from 1
abbrev pub from_one : Option ℕ → Option ℕ
from_one None = None
from_one (Some n) = if n == 0 then None else Some n

abbrev pub write_in : List ℕ → Option ℕ
write_in digits = from_one (digits_up_to 255 digits)

abbrev pub read_behind : {A : Type 0} → Option (List ℕ) → (List ℕ → A) → A → A
read_behind None found other = other
read_behind (Some rest) found other = found rest

-- the place in a commit
abbrev pub tear_place_in : List ℕ → Option TearAt
tear_place_in text =
    if bytes_eq text (codes "release") then Some Release
    else read_behind (behind_mark (codes "before ") text) (λ digits. option_map Before (write_in digits))
    (read_behind (behind_mark (codes "within ") text) (λ digits. option_map Within (write_in digits)) None)

abbrev pub tear_of_parts : Option ℕ → Option TearAt → Option Tear
tear_of_parts None place = None
tear_of_parts (Some commit) None = None
tear_of_parts (Some commit) (Some at) = Some (record { commit = commit; at = at })

-- `C before N`, `C within N` or `C release`
unfoldable pub tear_in_line : List ℕ → Option Tear
tear_in_line text = tear_of_parts (digits_up_to 255 (split_word text).0) (tear_place_in (split_word text).1)

abbrev pub pull_of : Option Tear → Word
pull_of None = Other
pull_of (Some tear) = Does (Pull tear)

-- a command of 1 to 261 bytes
abbrev pub command_word : List ℕ → Word
command_word bytes = if length bytes == 0 || nat_lt 261 (length bytes) then Other else Does (Command (record { items = bytes }))

-- one in hexadecimal
abbrev pub command_in : Result (List ℕ) FromHexError → Word
command_in (Err fault) = Other
command_in (Ok bytes) = command_word bytes

-- a word by itself
abbrev pub plain_word : List ℕ → Option Word
plain_word line =
    if bytes_eq line (codes "power") then Some (Does Power)
    else if bytes_eq line (codes "off") then Some (Does Off)
    else if bytes_eq line (codes "state") then Some (Asks State)
    else if bytes_eq line (codes "torn") then Some (Asks TornAsked)
    else if bytes_eq line (codes "decided") then Some (Asks DecidedAsked)
    else if bytes_eq line (codes "why") then Some (Asks Why)
    else None

abbrev pub word_before : Option Word → Word → Word
word_before None rest = rest
word_before (Some word) rest = word

-- what a line says
unfoldable pub line_word : List ℕ → Word
line_word line =
    word_before (plain_word line) (read_behind (behind_mark (codes "pull ") line) (λ text. pull_of (tear_in_line text)) (command_in (decode_of line)))
