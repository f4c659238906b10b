-- A data object list: entries of a tag and a length of one byte, one behind another, with nothing
-- between them (EMV 4.3 Book 3 section 5.4).
use Rattle.std.specs.Prelude.{ℕ, zero, suc, ◌+◌, ◌==◌, ◌&&◌, if◌then◌else◌, List, [], ◌∷◌, length, Option, Some, None, option_map, Result, Ok, Err, slice_get}
use Rattle.ber_tlv.specs.Item.{tag_at}
use Rattle.ber_tlv.specs.declared.item.TlvFault.{TlvFault}
use Rattle.ber_tlv.specs.declared.item.TlvFault.TheVariants as tlv
use Rattle.object_lists.specs.declared.dol.DolFault.{DolFault}
use Rattle.object_lists.specs.declared.dol.DolFault.TheVariants.{Truncated, LongTag}

-- a tag as the number of its bytes, and how many bytes of data are wanted
pub record DolEntry : Type 0 where
  pub tag : ℕ
  pub count : ℕ

-- an entry whose tag cannot be read; no tag has a bad length byte
abbrev pub fault_of_tag : TlvFault → DolFault
fault_of_tag (tlv.Truncated place) = Truncated place
fault_of_tag (tlv.BadLength place) = Truncated place
fault_of_tag (tlv.LongTag place) = LongTag place

-- the length byte behind a tag
abbrev pub dol_entry_with : ℕ → ℕ × ℕ → Option ℕ → Result (DolEntry × ℕ) DolFault
dol_entry_with start tag (Some count) = Ok (record { tag = tag.0; count = count }, tag.1 + 1)
dol_entry_with start tag None = Err (Truncated start)

-- the entry that begins at a place, and the place behind it
abbrev pub with_count : List ℕ → ℕ → Result (ℕ × ℕ) TlvFault → Result (DolEntry × ℕ) DolFault
with_count bytes start (Ok tag) = dol_entry_with start tag (slice_get bytes tag.1)
with_count bytes start (Err fault) = Err (fault_of_tag fault)

unfoldable pub dol_entry_at : List ℕ → ℕ → Result (DolEntry × ℕ) DolFault
dol_entry_at bytes start = with_count bytes start (tag_at bytes start)

-- one entry, and those behind it
abbrev pub then_entries : DolEntry → Result (List DolEntry) DolFault → Result (List DolEntry) DolFault
then_entries entry (Ok entries) = Ok (entry ∷ entries)
then_entries entry (Err fault) = Err fault

-- an entry and what `behind` makes of the place behind it, or its fault
abbrev pub then_behind : Result (DolEntry × ℕ) DolFault → (ℕ → Result (List DolEntry) DolFault) → Result (List DolEntry) DolFault
then_behind (Ok found) behind = then_entries found.0 (behind found.1)
then_behind (Err fault) behind = Err fault

-- the entries from a place on; `count` is at least the number of bytes that are left
unfoldable pub entries_from : ℕ → List ℕ → ℕ → Result (List DolEntry) DolFault
entries_from zero bytes place = Ok []
entries_from (suc count) bytes place =
    if place == length bytes then Ok [] else then_behind (dol_entry_at bytes place) (entries_from count bytes)

-- the entries from a place to the end, or the first fault
unfoldable pub entries_behind : List ℕ → ℕ → Result (List DolEntry) DolFault
entries_behind bytes place = entries_from (length bytes) bytes place

-- the entries of an object list, or its first fault
abbrev pub dol_of : List ℕ → Result (List DolEntry) DolFault
dol_of bytes = entries_behind bytes 0

-- how many bytes of data all entries want
abbrev pub total_of : List DolEntry → ℕ
total_of [] = 0
total_of (entry ∷ entries) = entry.count + total_of entries

-- where the data of the first entry with this tag and length begins
abbrev pub data_place : ℕ → ℕ → List DolEntry → Option ℕ
data_place tag count [] = None
data_place tag count (entry ∷ entries) =
    if (entry.tag == tag) && (entry.count == count) then Some 0 else option_map (λ place. entry.count + place) (data_place tag count entries)
