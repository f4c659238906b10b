-- The application file locator (EMV 4.3 Book 3 section 10.2).
use Rattle.std.specs.Prelude.{ℕ, zero, suc, List, [], ◌∷◌, ◌++◌, ◌+◌, ◌*◌, ◌-◌, ◌/◌, ◌%◌, ◌==◌, ◌||◌, Bool, nat_lt, length, Option, Some, None, Result, Ok, Err, position, if◌then◌else◌}
use Rattle.std.specs.List.{flat_map}
use Rattle.read_records.specs.declared.afl.Group.{Group}

-- a record to read: its file's short file identifier, and its number there
pub record RecordPlace : Type 0 where
  pub sfi : ℕ
  pub number : ℕ

-- the groups of four bytes, one behind another
abbrev pub groups_in : List ℕ → List Group
groups_in [] = []
groups_in (a ∷ []) = []
groups_in (a ∷ b ∷ []) = []
groups_in (a ∷ b ∷ c ∷ []) = []
groups_in (file ∷ first ∷ last ∷ authenticated ∷ rest) =
    record { file = file; first = first; last = last; authenticated = authenticated } ∷ groups_in rest

-- the SFI is 0 or 31, the first record is 0, the last is below it, or more records than there are
-- take part in offline data authentication
abbrev pub is_bad : Group → Bool
is_bad group =
    group.file / 8 == 0 || (group.file / 8 == 31 || (group.first == 0
    || (nat_lt group.last group.first || nat_lt (group.last - group.first + 1) group.authenticated)))

abbrev pub unless_bad : List Group → Option ℕ → Result (List Group) ℕ
unless_bad groups None = Ok groups
unless_bad groups (Some index) = Err (index + 1)

-- the groups, or the number of the first bad one, from 1; 0 where the locator is empty or its last
-- group is not whole
unfoldable pub groups_of : List ℕ → Result (List Group) ℕ
groups_of afl =
    if length afl == 0 || nat_lt 0 (length afl % 4) then Err 0 else unless_bad (groups_in afl) (position is_bad (groups_in afl))

-- so many records from one on
abbrev pub places_from : ℕ → ℕ → ℕ → List RecordPlace
places_from sfi number zero = []
places_from sfi number (suc count) = record { sfi = sfi; number = number } ∷ places_from sfi (number + 1) count

abbrev pub places_in : Group → List RecordPlace
places_in group = places_from (group.file / 8) group.first (suc (group.last - group.first))

-- the records to read, in their order
abbrev pub places_of : List Group → List RecordPlace
places_of groups = flat_map places_in groups

-- those of one group and of the groups behind it
abbrev pub places_with : Group → List Group → List RecordPlace
places_with group groups = places_in group ++ places_of groups

-- a locator has room for 63 groups, and a group names at most 256 records
abbrev pub most_records : ℕ
most_records = 63 * 256
