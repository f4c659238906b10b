-- What a reader finds at one key of a table.
use Rattle.std.specs.Prelude.{ℕ, ◌+◌, List, [], ◌∷◌, ◌++◌, Bool, not, Option, Some, None, is_some, Result, Ok, Err, if◌then◌else◌}
use Rattle.std.specs.List.{list_any}
use Rattle.std.specs.Cmp.Lexicographic.{slice_cmp}
use Rattle.std.specs.Ordering.{nat_cmp, is_lt}
use Rattle.std.specs.Str.{bytes_eq}
use Rattle.toml.specs.Data.{Data, Items, no_items, item, Members, no_members, member, get_member}
use Rattle.scenario_fields.specs.Fault.{◌>>=◌, or_fault, keep_if}
use Rattle.scenario_fields.specs.TablePaths.{item_path}
use Rattle.scenario_fields.specs.Value.{number_of, listed_of, flag_of, str_of, text_of, digits_of, code_of, six_digits_of, day_of, bytes_of, array_of, table_of}
use Rattle.scenario_fields.specs.declared.fault.ScenarioFault.{ScenarioFault}
use Rattle.scenario_fields.specs.declared.fault.ScenarioFault.TheVariants.{MissingKey, BadValue, UnknownKey}
use Rattle.scenario_fields.specs.declared.spot.Characters.{Characters}

-- a key without a default
abbrev pub required : (List ℕ → List ℕ) → List ℕ → Members → Result Data ScenarioFault
required path key ms = or_fault (MissingKey (path key)) (get_member key ms)

-- a key that has no place in its table, whatever it holds
unfoldable pub absent : (List ℕ → List ℕ) → List ℕ → Members → Result (Unit {0}) ScenarioFault
absent path key ms = keep_if (not (is_some (get_member key ms))) (BadValue (path key)) tt

-- a value that may be absent
abbrev pub if_there : {A : Type 0} → (Data → Result A ScenarioFault) → Option Data → Result (Option A) ScenarioFault
if_there read None = Ok None
if_there read (Some d) = read d >>= (λ x. Ok (Some x))

-- a value with a default
abbrev pub or_default : {A : Type 0} → A → (Data → Result A ScenarioFault) → Option Data → Result A ScenarioFault
or_default default read None = Ok default
or_default default read (Some d) = read d

-- The readers of a key, named for the reader of its value: `_at` where the key must be there, `_or`
-- with a default, `optional_` where it may be absent.
unfoldable pub number_at : (List ℕ → List ℕ) → List ℕ → ℕ → ℕ → Members → Result ℕ ScenarioFault
number_at path key least most ms = required path key ms >>= number_of (path key) least most

-- a number in its limits at a key, or the default
unfoldable pub number_or : ℕ → (List ℕ → List ℕ) → List ℕ → ℕ → ℕ → Members → Result ℕ ScenarioFault
number_or default path key least most ms = or_default default (number_of (path key) least most) (get_member key ms)

-- a number in its limits at a key that may be absent
unfoldable pub optional_number : (List ℕ → List ℕ) → List ℕ → ℕ → ℕ → Members → Result (Option ℕ) ScenarioFault
optional_number path key least most ms = if_there (number_of (path key) least most) (get_member key ms)

-- one of some numbers at a key, or the default
unfoldable pub listed_or : ℕ → (List ℕ → List ℕ) → List ℕ → List ℕ → Members → Result ℕ ScenarioFault
listed_or default path key numbers ms = or_default default (listed_of (path key) numbers) (get_member key ms)

-- a flag at a key, or its default
unfoldable pub flag_or : Bool → (List ℕ → List ℕ) → List ℕ → Members → Result Bool ScenarioFault
flag_or default path key ms = or_default default (flag_of (path key)) (get_member key ms)

-- a text at a key that must be there
unfoldable pub str_at : (List ℕ → List ℕ) → List ℕ → Members → Result (List ℕ) ScenarioFault
str_at path key ms = required path key ms >>= str_of (path key)

-- a text of these characters and this length at a key that must be there
unfoldable pub text_at : (List ℕ → List ℕ) → List ℕ → Characters → ℕ → ℕ → Members → Result (List ℕ) ScenarioFault
text_at path key kind least most ms = required path key ms >>= text_of (path key) kind least most

-- digits at a key that must be there
unfoldable pub digits_at : (List ℕ → List ℕ) → List ℕ → ℕ → ℕ → Members → Result (List ℕ) ScenarioFault
digits_at path key least most ms = required path key ms >>= digits_of (path key) least most

-- digits at a key that may be absent
unfoldable pub optional_digits : (List ℕ → List ℕ) → List ℕ → ℕ → ℕ → Members → Result (Option (List ℕ)) ScenarioFault
optional_digits path key least most ms = if_there (digits_of (path key) least most) (get_member key ms)

-- a code of three digits at a key that must be there
unfoldable pub code_at : (List ℕ → List ℕ) → List ℕ → Members → Result (List ℕ) ScenarioFault
code_at path key ms = required path key ms >>= code_of (path key)

-- a code of three digits at a key that may be absent
unfoldable pub optional_code : (List ℕ → List ℕ) → List ℕ → Members → Result (Option (List ℕ)) ScenarioFault
optional_code path key ms = if_there (code_of (path key)) (get_member key ms)

-- six digits at a key, or the default
unfoldable pub six_digits_or : List ℕ → (List ℕ → List ℕ) → List ℕ → Members → Result (List ℕ) ScenarioFault
six_digits_or default path key ms = or_default default (six_digits_of (path key)) (get_member key ms)

-- a date at a key that must be there
unfoldable pub day_at : (List ℕ → List ℕ) → List ℕ → Members → Result (List ℕ) ScenarioFault
day_at path key ms = required path key ms >>= day_of (path key)

-- bytes at a key that must be there
unfoldable pub bytes_at : (List ℕ → List ℕ) → List ℕ → ℕ → ℕ → Members → Result (List ℕ) ScenarioFault
bytes_at path key least most ms = required path key ms >>= bytes_of (path key) least most

-- bytes at a key that may be absent
unfoldable pub optional_bytes : (List ℕ → List ℕ) → List ℕ → ℕ → ℕ → Members → Result (Option (List ℕ)) ScenarioFault
optional_bytes path key least most ms = if_there (bytes_of (path key) least most) (get_member key ms)

-- an array of `least` to `most` elements at a key that must be there
unfoldable pub array_at : (List ℕ → List ℕ) → List ℕ → ℕ → ℕ → Members → Result Items ScenarioFault
array_at path key least most ms = required path key ms >>= array_of (path key) least most

-- an array that is empty where its key is absent
unfoldable pub array_or_none : (List ℕ → List ℕ) → List ℕ → ℕ → Members → Result Items ScenarioFault
array_or_none path key most ms = or_default no_items (array_of (path key) 0 most) (get_member key ms)

-- a table at a key that must be there
unfoldable pub table_at : (List ℕ → List ℕ) → List ℕ → Members → Result Members ScenarioFault
table_at path key ms = required path key ms >>= table_of (path key)

-- a table at a key that may be absent
unfoldable pub optional_table : (List ℕ → List ℕ) → List ℕ → Members → Result (Option Members) ScenarioFault
optional_table path key ms = if_there (table_of (path key)) (get_member key ms)

-- a table that is an item of the array at a key
unfoldable pub table_item : (List ℕ → List ℕ) → List ℕ → ℕ → Data → Result Members ScenarioFault
table_item path key i d = table_of (path (item_path key i [])) d

-- each item of an array in turn, from index `i` on
abbrev pub each : {A : Type 0} → (ℕ → Data → Result A ScenarioFault) → ℕ → Items → Result (List A) ScenarioFault
each read i no_items = Ok []
each read i (item d ds) = do
  first ← read i d
  rest ← each read (i + 1) ds
  Ok (first ∷ rest)

-- what was read of a list, and the rest behind it
abbrev pub with_front : {A : Type 0} → List A → Result (List A) ScenarioFault → Result (List A) ScenarioFault
with_front front read = read >>= (λ rest. Ok (front ++ rest))

-- an array of at most `count` texts, each of `least` to `most` digits
unfoldable pub digits_item : (List ℕ → List ℕ) → List ℕ → ℕ → ℕ → ℕ → Data → Result (List ℕ) ScenarioFault
digits_item path key least most i d = digits_of (path (item_path key i [])) least most d

-- an array of texts of digits, empty where its key is absent
unfoldable pub digits_list : (List ℕ → List ℕ) → List ℕ → ℕ → ℕ → ℕ → Members → Result (List (List ℕ)) ScenarioFault
digits_list path key count least most ms = do
  items ← array_or_none path key count ms
  each (digits_item path key least most) 0 items

-- the lesser of a key and another, where there is one, by their bytes
abbrev pub lesser : List ℕ → Option (List ℕ) → List ℕ
lesser key None = key
lesser key (Some other) = (if is_lt (slice_cmp nat_cmp other key) then other else key)

-- the least key that is none of these
abbrev pub least_other : List (List ℕ) → Members → Option (List ℕ)
least_other known no_members = None
least_other known (member k d ms) = (if list_any (bytes_eq k) known then least_other known ms else Some (lesser k (least_other known ms)))

abbrev pub none_of : (List ℕ → List ℕ) → Option (List ℕ) → Result (Unit {0}) ScenarioFault
none_of path None = Ok tt
none_of path (Some key) = Err (UnknownKey (path key))

-- a table has no other keys than these
unfoldable pub only : (List ℕ → List ℕ) → List (List ℕ) → Members → Result (Unit {0}) ScenarioFault
only path known ms = none_of path (least_other known ms)
