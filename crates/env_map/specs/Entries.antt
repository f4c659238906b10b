-- A finite map from tags to byte strings, as the list of its entries by rising tag.
use Rattle.std.specs.Prelude.{ℕ, Bool, true, ◌<◌, ◌==◌, ⊤, nat_lt, if◌then◌else◌, List, [], ◌∷◌, length, Option, Some, None, filter, sum_by}
use Rattle.std.specs.List.{AllByRecursion}
use Rattle.ber_tlv.specs.declared.tag.Tag.{Tag}

-- the entries of a map: tags with their values
abbrev pub Entries : Type 0
Entries = List (ℕ × List ℕ)

-- each tag is below those behind it, so none stands twice
abbrev pub IsRising : Entries → Type 0
IsRising [] = ⊤
IsRising (entry ∷ entries) = AllByRecursion (λ later. entry.0 < later.0) entries × IsRising entries

-- the value of a tag
abbrev pub value_of : ℕ → Entries → Option (List ℕ)
value_of tag [] = None
value_of tag (entry ∷ entries) = (if entry.0 == tag then Some entry.1 else value_of tag entries)

-- the map with one more entry, before the first greater tag
abbrev pub with_object : ℕ → List ℕ → Entries → Entries
with_object tag value [] = (tag, value) ∷ []
with_object tag value (entry ∷ entries) = (if nat_lt tag entry.0 then (tag, value) ∷ entry ∷ entries else entry ∷ with_object tag value entries)

-- the map with another value for this tag
abbrev pub with_value : ℕ → List ℕ → Entries → Entries
with_value tag value [] = []
with_value tag value (entry ∷ entries) = (if entry.0 == tag then (tag, value) ∷ entries else entry ∷ with_value tag value entries)

-- how many bytes the values have
abbrev pub size_of_values : Entries → ℕ
size_of_values entries = sum_by (λ entry. length entry.1) entries

-- the entries whose tag is above the given one, and all where none is given
abbrev pub is_tag_above : Option Tag → ℕ → Bool
is_tag_above None tag = true
is_tag_above (Some given) tag = nat_lt given.0 tag

-- the entries whose tag is above a given one, all where none is given
abbrev pub entries_after : Option Tag → Entries → Entries
entries_after given entries = filter (λ entry. is_tag_above given entry.0) entries
