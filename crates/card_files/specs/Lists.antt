-- The object lists of an application: how long they are, and which entries they hold (EMV 4.3 Book 3 section 5.4,
-- Book 2 section 8.1.1).
use Rattle.std.specs.Prelude.{ℕ, Bool, true, false, ◌==◌, ◌||◌, nat_le, nat_lt, is_some, if◌then◌else◌, List, [], ◌∷◌, length, Option, Some, None, Result, Ok, Err}
use Rattle.std.specs.List.{list_all}
use Rattle.object_lists.specs.DolEntries.{DolEntry, dol_of, total_of, data_place}
use Rattle.object_lists.specs.declared.dol.DolFault.{DolFault}

-- the most bytes of data that an object list may want: what one command carries
abbrev pub most_data : ℕ
most_data = 252

-- the most bytes of a processing options object list, and of an object list of GENERATE AC
abbrev pub most_pdol : ℕ
most_pdol = 200

abbrev pub most_cdol : ℕ
most_cdol = 252

-- the entries want no more data than one command carries
abbrev pub fitting : Result (List DolEntry) DolFault → Option (List DolEntry)
fitting (Ok entries) = (if nat_le (total_of entries) most_data then Some entries else None)
fitting (Err fault) = None

-- the entries of an object list of at most so many bytes, where it can be read and wants no more data
unfoldable pub entries_within : ℕ → List ℕ → Option (List DolEntry)
entries_within most bytes = (if nat_le (length bytes) most then fitting (dol_of bytes) else None)

-- an entry of this tag and length is among them
abbrev pub has_entry : List DolEntry → DolEntry → Bool
has_entry entries wanted = is_some (data_place wanted.tag wanted.count entries)

-- whether all entries that are wanted are among these
abbrev pub has_all : List DolEntry → List DolEntry → Bool
has_all wanted entries = list_all (has_entry entries) wanted

abbrev pub entry : ℕ → ℕ → DolEntry
entry tag count = record { tag = tag; count = count }

-- what the first GENERATE AC brings: both amounts, country, verification results, currency, date, type
-- and unpredictable number
abbrev pub cdol1_entries : List DolEntry
cdol1_entries =
    entry 0x9F02 6 ∷ entry 0x9F03 6 ∷ entry 0x9F1A 2 ∷ entry 0x95 5 ∷ entry 0x5F2A 2 ∷ entry 0x9A 3 ∷ entry 0x9C 1 ∷ entry 0x9F37 4 ∷ []

-- what the second one brings: the authorisation response code
abbrev pub cdol2_entries : List DolEntry
cdol2_entries = entry 0x8A 2 ∷ []

-- such a list with all these entries
abbrev pub holds_all : List DolEntry → Option (List DolEntry) → Bool
holds_all wanted (Some entries) = has_all wanted entries
holds_all wanted None = false

-- a list of processing options that can be read and is no longer than allowed
abbrev pub is_pdol : List ℕ → Bool
is_pdol bytes = is_some (entries_within most_pdol bytes)

-- a list for the first GENERATE AC that can be read, is no longer than allowed and has the entries that it must have
abbrev pub is_cdol1 : List ℕ → Bool
is_cdol1 bytes = holds_all cdol1_entries (entries_within most_cdol bytes)

-- the same of the list for the second one
abbrev pub is_cdol2 : List ℕ → Bool
is_cdol2 bytes = holds_all cdol2_entries (entries_within most_cdol bytes)

-- with a transaction log, the processing options object list leaves room for it in the file control information
abbrev pub leaves_room : ℕ → Option (List ℕ) → Bool
leaves_room log (Some bytes) = log == 0 || nat_lt (length bytes) most_pdol
leaves_room log None = true

abbrev pub is_optional_pdol : Option (List ℕ) → Bool
is_optional_pdol (Some bytes) = is_pdol bytes
is_optional_pdol None = true
