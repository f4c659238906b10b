-- The entries of a directory's record (EMV 4.3 Book 1 section 12.2.3): the templates 61 directly in it, each with
-- the name (4F) and the priority (87) of an application.
use Rattle.std.specs.Prelude.{ℕ, ◌&&◌, ◌==◌, ◌++◌, nat_le, length, List, [], ◌∷◌, Option, Some, None, Result, Ok, Err, if◌then◌else◌}
use Rattle.ber_tlv.specs.Direct.{first_value}
use Rattle.ber_tlv.specs.Item.{ItemData}
use Rattle.ber_tlv.specs.Left.{items_of}
use Rattle.ber_tlv.specs.declared.item.TlvFault.{TlvFault}

-- the name of an application, and the byte of its priority indicator where it has one
pub record EntryData : Type 0 where
  pub name : List ℕ
  pub priority : Option ℕ

-- a priority indicator of another length than one byte counts as absent
abbrev pub priority_byte : Option (List ℕ) → Option ℕ
priority_byte None = None
priority_byte (Some []) = None
priority_byte (Some (byte ∷ [])) = Some byte
priority_byte (Some (byte ∷ other ∷ bytes)) = None

-- the name of an application has 5 to 16 bytes
abbrev pub application_name : Option (List ℕ) → Option (List ℕ)
application_name None = None
application_name (Some name) = (if nat_le 5 (length name) && nat_le (length name) 16 then Some name else None)

-- a template without a name gives no entry
abbrev pub entry_if_named : Option (List ℕ) → Option ℕ → List EntryData
entry_if_named None priority = []
entry_if_named (Some name) priority = record { name = name; priority = priority } ∷ []

-- what the objects directly in a template 61 give; none where they can't be read
abbrev pub entries_in_template : Result (List ItemData) TlvFault → Option (List EntryData)
entries_in_template (Ok items) = Some (entry_if_named (application_name (first_value 0x4F items)) (priority_byte (first_value 0x87 items)))
entries_in_template (Err fault) = None

-- another object in the record gives no entry
abbrev pub entries_in_object : ItemData → Option (List EntryData)
entries_in_object item = (if item.tag == 0x61 then entries_in_template (items_of item.value) else Some [])

abbrev pub joined_entries : Option (List EntryData) → Option (List EntryData) → Option (List EntryData)
joined_entries None later = None
joined_entries (Some entries) None = None
joined_entries (Some entries) (Some later) = Some (entries ++ later)

abbrev pub entries_in_items : List ItemData → Option (List EntryData)
entries_in_items [] = Some []
entries_in_items (item ∷ items) = joined_entries (entries_in_object item) (entries_in_items items)

-- what the objects directly in a record's template 70 give; none where they, or those of an entry, can't be read
abbrev pub entries_in : Result (List ItemData) TlvFault → Option (List EntryData)
entries_in (Ok items) = entries_in_items items
entries_in (Err fault) = None
