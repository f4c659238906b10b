-- What the answers to SELECT of the directory and to READ RECORD in it say (EMV 4.3 Book 1 sections 11.2, 11.3 and
-- 12.2.3; section 12.2.2).
use Rattle.std.specs.Prelude.{ℕ, ◌&&◌, ◌==◌, nat_le, is_some, List, [], ◌∷◌, Option, Some, None, Result, Ok, Err, if◌then◌else◌}
use Rattle.apdu_core.specs.Response.{ResponseData, response_of}
use Rattle.apdu_core.specs.Status.{no_error, function_not_supported, record_not_found}
use Rattle.app_select.specs.Fci.{fci_of}
use Rattle.ber_tlv.specs.Direct.{first_value, sole_value}
use Rattle.ber_tlv.specs.Item.{ItemData}
use Rattle.ber_tlv.specs.Left.{items_of}
use Rattle.ber_tlv.specs.declared.item.TlvFault.{TlvFault}
use Rattle.pse_directory.specs.Entries.{EntryData, entries_in}

-- a short file identifier of a directory: one byte, from 1 to 10 (88)
abbrev pub file_number : Option (List ℕ) → Option ℕ
file_number None = None
file_number (Some []) = None
file_number (Some (sfi ∷ [])) = (if nat_le 1 sfi && nat_le sfi 10 then Some sfi else None)
file_number (Some (sfi ∷ other ∷ bytes)) = None

-- the first one among the objects of a proprietary template (A5)
abbrev pub directory_file_in : Result (List ItemData) TlvFault → Option ℕ
directory_file_in (Ok items) = file_number (first_value 0x88 items)
directory_file_in (Err fault) = None

abbrev pub file_in_proprietary : Option (List ℕ) → Option ℕ
file_in_proprietary None = None
file_in_proprietary (Some value) = directory_file_in (items_of value)

-- in the first such template of an FCI template (6F)
abbrev pub file_in_items : Result (List ItemData) TlvFault → Option ℕ
file_in_items (Ok items) = file_in_proprietary (first_value 0xA5 items)
file_in_items (Err fault) = None

abbrev pub file_in_template : Option (List ℕ) → Option ℕ
file_in_template None = None
file_in_template (Some template) = file_in_items (items_of template)

-- the file that the FCI of a directory names; none where it can't be read
abbrev pub directory_file : List ℕ → Option ℕ
directory_file body = (if is_some (fci_of body) then file_in_template (sole_value 0x6F (items_of body)) else None)

-- an answer to SELECT of the directory: it is no response, the card is blocked, the directory's records stand in
-- this file, or there is no directory
pub data NameSaid : Type 0 where
  NoResponse : NameSaid
  Blocked : NameSaid
  Gives : ℕ → NameSaid
  Nothing : NameSaid

abbrev pub said_file : Option ℕ → NameSaid
said_file None = Nothing
said_file (Some sfi) = Gives sfi

abbrev pub name_response : Option ResponseData → NameSaid
name_response None = NoResponse
name_response (Some said) =
    if said.status == function_not_supported then Blocked
    else if said.status == no_error then said_file (directory_file said.body)
    else Nothing

unfoldable pub name_said : List ℕ → NameSaid
name_said answer = name_response (response_of answer)

-- an answer to READ RECORD: it is no response, there is no such record, a record with these entries, or anything else
pub data RecordSaid : Type 0 where
  Unreadable : RecordSaid
  Past : RecordSaid
  Holds : List EntryData → RecordSaid
  Faulty : RecordSaid

abbrev pub said_entries : Option (List EntryData) → RecordSaid
said_entries None = Faulty
said_entries (Some entries) = Holds entries

-- a record is one template 70
abbrev pub said_template : Option (List ℕ) → RecordSaid
said_template None = Faulty
said_template (Some template) = said_entries (entries_in (items_of template))

abbrev pub record_response : Option ResponseData → RecordSaid
record_response None = Unreadable
record_response (Some said) =
    if said.status == record_not_found then Past
    else if said.status == no_error then said_template (sole_value 0x70 (items_of said.body))
    else Faulty

unfoldable pub record_said : List ℕ → RecordSaid
record_said answer = record_response (response_of answer)
