-- What a reader finds in one value of a TOML document: the value in its type and limits, or its fault.
-- The rules of a value are tried in the order in which they stand here: its type, its characters, its limits.
use Rattle.std.specs.Prelude.{ℕ, ◌+◌, ◌-◌, ℤ, pos, negsuc, List, ◌∷◌, ◌==◌, ◌&&◌, ◌||◌, nat_le, Bool, length, map, Result, Ok, Err, is_some}
use Rattle.std.specs.List.{list_all, list_any}
use Rattle.emv_dict.specs.Date.{date_of}
use Rattle.emv_dict.specs.Nibbles.{packed}
use Rattle.emv_dict.specs.Settings.{is_letter_or_digit}
use Rattle.hex.specs.Hex.{decode_of}
use Rattle.hex.specs.declared.error.FromHexError.{FromHexError}
use Rattle.toml.specs.Data.{Data, Items, Members, no_items, item, as_str, as_integer, as_bool, as_array, as_table}
use Rattle.scenario_fields.specs.Fault.{◌>>=◌, or_fault, keep_if}
use Rattle.scenario_fields.specs.declared.fault.ScenarioFault.{ScenarioFault}
use Rattle.scenario_fields.specs.declared.fault.ScenarioFault.TheVariants.{BadValue, OutOfLimit}
use Rattle.scenario_fields.specs.declared.spot.Characters.{Characters}
use Rattle.scenario_fields.specs.declared.spot.Characters.TheVariants.{Digit, LetterOrDigit, LowercaseOrDigit, Printable}

-- a whole number from `least` to `most`
abbrev pub within : List ℕ → ℕ → ℕ → ℤ → Result ℕ ScenarioFault
within path least most (pos n) = keep_if (nat_le least n && nat_le n most) (OutOfLimit path) n
within path least most (negsuc n) = Err (OutOfLimit path)

-- a whole number from `least` to `most`
unfoldable pub number_of : List ℕ → ℕ → ℕ → Data → Result ℕ ScenarioFault
number_of path least most d = or_fault (BadValue path) (as_integer d) >>= within path least most

-- the number is one of these
unfoldable pub is_listed : ℕ → List ℕ → Bool
is_listed n numbers = list_any (λ m. m == n) numbers

abbrev pub among : List ℕ → List ℕ → ℤ → Result ℕ ScenarioFault
among path numbers (pos n) = keep_if (is_listed n numbers) (BadValue path) n
among path numbers (negsuc n) = Err (BadValue path)

-- a whole number that is one of these
unfoldable pub listed_of : List ℕ → List ℕ → Data → Result ℕ ScenarioFault
listed_of path numbers d = or_fault (BadValue path) (as_integer d) >>= among path numbers

-- true or false
unfoldable pub flag_of : List ℕ → Data → Result Bool ScenarioFault
flag_of path d = or_fault (BadValue path) (as_bool d)

-- a text of any characters
unfoldable pub str_of : List ℕ → Data → Result (List ℕ) ScenarioFault
str_of path d = or_fault (BadValue path) (as_str d)

abbrev pub is_digit : ℕ → Bool
is_digit c = nat_le 48 c && nat_le c 57

abbrev pub is_lowercase : ℕ → Bool
is_lowercase c = nat_le 97 c && nat_le c 122

-- a character of ASCII of one of these kinds
abbrev pub is_one_of : Characters → ℕ → Bool
is_one_of Digit c = is_digit c
is_one_of LetterOrDigit c = is_letter_or_digit c
is_one_of LowercaseOrDigit c = is_digit c || is_lowercase c
is_one_of Printable c = nat_le 32 c && nat_le c 126

-- from `least` to `most` of them
abbrev pub in_limits : List ℕ → ℕ → ℕ → List ℕ → Result (List ℕ) ScenarioFault
in_limits path least most found = keep_if (nat_le least (length found) && nat_le (length found) most) (OutOfLimit path) found

-- a text of `least` to `most` characters of one kind
unfoldable pub text_of : List ℕ → Characters → ℕ → ℕ → Data → Result (List ℕ) ScenarioFault
text_of path kind least most d = do
  text ← str_of path d
  kept ← keep_if (list_all (is_one_of kind) text) (BadValue path) text
  in_limits path least most kept

-- decimal digits, each as a number from 0 to 9
unfoldable pub digits_of : List ℕ → ℕ → ℕ → Data → Result (List ℕ) ScenarioFault
digits_of path least most d = do
  text ← text_of path Digit least most d
  Ok (map (λ c. c - 48) text)

-- the code of a currency or of a country: three digits in two bytes behind a 0
unfoldable pub code_of : List ℕ → Data → Result (List ℕ) ScenarioFault
code_of path d = do
  digits ← digits_of path 3 3 d
  Ok (packed (0 ∷ digits))

-- six digits, two a byte
unfoldable pub six_digits_of : List ℕ → Data → Result (List ℕ) ScenarioFault
six_digits_of path d = do
  digits ← digits_of path 6 6 d
  Ok (packed digits)

-- year, month and day, two digits each
unfoldable pub day_of : List ℕ → Data → Result (List ℕ) ScenarioFault
day_of path d = do
  bytes ← six_digits_of path d
  keep_if (is_some (date_of bytes)) (BadValue path) bytes

-- the bytes that the text of two hexadecimal digits a byte spells
abbrev pub hex_spelled : List ℕ → Result (List ℕ) FromHexError → Result (List ℕ) ScenarioFault
hex_spelled path (Ok bytes) = Ok bytes
hex_spelled path (Err fault) = Err (BadValue path)

unfoldable pub hex_of : List ℕ → Data → Result (List ℕ) ScenarioFault
hex_of path d = do
  text ← str_of path d
  hex_spelled path (decode_of text)

-- from `least` to `most` bytes
unfoldable pub bytes_of : List ℕ → ℕ → ℕ → Data → Result (List ℕ) ScenarioFault
bytes_of path least most d = hex_of path d >>= in_limits path least most

abbrev pub count : Items → ℕ
count no_items = 0
count (item d ds) = count ds + 1

-- an array of `least` to `most` elements
unfoldable pub array_of : List ℕ → ℕ → ℕ → Data → Result Items ScenarioFault
array_of path least most d = do
  items ← or_fault (BadValue path) (as_array d)
  keep_if (nat_le least (count items) && nat_le (count items) most) (OutOfLimit path) items

-- a table
unfoldable pub table_of : List ℕ → Data → Result Members ScenarioFault
table_of path d = or_fault (BadValue path) (as_table d)
