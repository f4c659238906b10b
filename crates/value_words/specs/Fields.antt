-- The entries of a data object list, and the data that fill them (EMV 4.3 Book 3 section 5.4).
use Rattle.std.specs.Prelude.{ℕ, zero, suc, ◌+◌, ◌==◌, Bool, false, ◌&&◌, ◌||◌, nat_le, if◌then◌else◌, List, [], ◌∷◌, length, take, drop, slice_get, Option, Some, None, option_map, Result, Ok, Err}
use Rattle.std.specs.Borrow.{Bor}
use Rattle.std.specs.Str.{bytes_eq}
use Rattle.ber_tlv.specs.Item.{tag_at}
use Rattle.ber_tlv.specs.declared.item.TlvFault.{TlvFault}
use Rattle.ber_tlv.specs.declared.tag.Tag.{Tag}
use Rattle.value_words.specs.declared.fields.Fields.{Fields}

-- an entry: the tag and the length that it wants, and the entries behind it
pub record ListEntry : Type 0 where
  pub tag : ℕ
  pub count : ℕ
  pub rest : List ℕ

abbrev pub entry_behind : List ℕ → Result (ℕ × ℕ) TlvFault → Option ListEntry
entry_behind list (Ok found) =
    option_map (λ count. record { tag = found.0; count = count; rest = drop (found.1 + 1) list }) (slice_get list found.1)
entry_behind list (Err fault) = None

-- the first entry: a tag, and one byte of length behind it
unfoldable pub next_entry : List ℕ → Option ListEntry
next_entry list = entry_behind list (tag_at list 0)

-- the entries, each as its tag and its length, and what stands behind the last one
abbrev pub by_entry : List ℕ → Option ListEntry → (List ℕ → List (ℕ × ℕ) × List ℕ) → List (ℕ × ℕ) × List ℕ
by_entry list None more = ([], list)
by_entry list (Some entry) more = ((entry.tag, entry.count) ∷ (more entry.rest).0, (more entry.rest).1)

-- `count` is more than the number of bytes
unfoldable pub list_entries_from : ℕ → List ℕ → List (ℕ × ℕ) × List ℕ
list_entries_from zero list = ([], list)
list_entries_from (suc count) list = by_entry list (next_entry list) (list_entries_from count)

unfoldable pub list_entries : List ℕ → List (ℕ × ℕ) × List ℕ
list_entries list = list_entries_from (suc (length list)) list

-- bytes that are a data object list: nothing stands behind the last entry
abbrev pub is_whole_list : List ℕ → Bool
is_whole_list list = length (list_entries list).1 == 0

-- how many bytes of data the entries want
abbrev pub bytes_wanted : List (ℕ × ℕ) → ℕ
bytes_wanted [] = 0
bytes_wanted (entry ∷ entries) = entry.1 + bytes_wanted entries

-- the entries with their part of the data, as far as these go
abbrev pub filled_entries : List (ℕ × ℕ) → List ℕ → List (ℕ × List ℕ)
filled_entries [] bytes = []
filled_entries (entry ∷ entries) bytes =
    if nat_le entry.1 (length bytes) then (entry.0, take entry.1 bytes) ∷ filled_entries entries (drop entry.1 bytes) else []

-- the entries of a data object list with their part of the data, as far as these go
unfoldable pub fields_of : List ℕ → List ℕ → List (ℕ × List ℕ)
fields_of list bytes = filled_entries (list_entries list).0 bytes

-- the list is one, and wants just these data
unfoldable pub are_fitting : List ℕ → List ℕ → Bool
are_fitting list bytes = is_whole_list list && bytes_wanted (list_entries list).0 == length bytes

-- the value of the first field of this tag that has so many bytes
abbrev pub value_among : ℕ → ℕ → List (ℕ × List ℕ) → Option (List ℕ)
value_among tag count [] = None
value_among tag count (field ∷ fields) =
    if field.0 == tag && length field.1 == count then Some field.1 else value_among tag count fields

-- some field of this tag has this value
abbrev pub has_field_of : ℕ → List ℕ → List (ℕ × List ℕ) → Bool
has_field_of tag value [] = false
has_field_of tag value (field ∷ fields) = (field.0 == tag && bytes_eq field.1 value) || has_field_of tag value fields

-- what a step over entries gave, as a definition sees it
abbrev pub seen_entry : Tag × ℕ × Bor (List ℕ) → ListEntry
seen_entry found = record { tag = found.0.0; count = found.1; rest = found.2.now }

-- what a step over fields gave, with the fields behind it
abbrev pub then_fields : Option (Tag × Bor (List ℕ) × Fields) → List (ℕ × List ℕ)
then_fields None = []
then_fields (Some found) = (found.0.0, found.1.now) ∷ fields_of found.2.list.now found.2.data.now

-- and whether the list and the data fit, behind it
abbrev pub then_fitting : Option (Tag × Bor (List ℕ) × Fields) → List ℕ → List ℕ → Bool
then_fitting None list bytes = length list == 0 && length bytes == 0
then_fitting (Some found) list bytes = are_fitting found.2.list.now found.2.data.now
