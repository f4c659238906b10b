-- GET PROCESSING OPTIONS (EMV 4.3 Book 3 sections 6.5.8 and 10.1; section 6.5.8.4).
use Rattle.object_lists.specs.Coding.{coding_cause}
use Rattle.std.specs.Prelude.{ℕ, List, [], ◌∷◌, ◌==◌, nat_le, nat_lt, length, take, drop, Option, Some, None, Result, Ok, Err, if◌then◌else◌}
use Rattle.apdu_core.specs.Command.{command_bytes}
use Rattle.apdu_core.specs.Response.{ResponseData, response_of}
use Rattle.apdu_core.specs.Status.{no_error, conditions_not_satisfied}
use Rattle.ber_tlv.specs.Direct.{first_value, sole_value}
use Rattle.ber_tlv.specs.Item.{ItemData}
use Rattle.ber_tlv.specs.Left.{items_of}
use Rattle.ber_tlv.specs.Written.{written}
use Rattle.ber_tlv.specs.declared.item.TlvFault.{TlvFault}
use Rattle.emv_dict.specs.Progress.{Progress, Wants, Stopped, Done}
use Rattle.emv_dict.specs.declared.ending.Cause.{Cause}
use Rattle.emv_dict.specs.declared.ending.Cause.TheVariants as cause
use Rattle.env_map.specs.Entries.{Entries}
use Rattle.object_lists.specs.DolEntries.{DolEntry, dol_of, total_of}
use Rattle.object_lists.specs.Filled.{dol_data}
use Rattle.object_lists.specs.declared.dol.DolFault.{DolFault}
use Rattle.read_records.specs.Afl.{RecordPlace, groups_of, places_of}
use Rattle.read_records.specs.declared.afl.Group.{Group}

-- the command with these data of the card's object list, in a template 83
abbrev pub options_command : List ℕ → List ℕ
options_command given = command_bytes (record { class = 0x80; ins = 0xA8; p1 = 0; p2 = 0; body = written 0x83 given; expects = Some 0 })

-- the data of a list, where they have room in the command; the card has given no object yet
abbrev pub filled_pdol : Entries → Result (List DolEntry) DolFault → Option (List ℕ)
filled_pdol terminal (Ok dol) = (if nat_le (total_of dol) 252 then Some (dol_data dol [] terminal) else None)
filled_pdol terminal (Err fault) = None

-- the data of the object list (9F38), none where it cannot be read or filled; without a list no data
abbrev pub options_data : Option (List ℕ) → Entries → Option (List ℕ)
options_data None terminal = Some []
options_data (Some list) terminal = (if nat_le (length list) 255 then filled_pdol terminal (dol_of list) else None)

-- what reading begins with: the objects so far, and the records to read
pub record Opened : Type 0 where
  pub entries : Entries
  pub left : List RecordPlace

abbrev pub opened_by : List ℕ → List ℕ → Result (List Group) ℕ → Result Opened Cause
opened_by profile locator (Ok groups) = Ok (record { entries = (0x82, profile) ∷ (0x94, locator) ∷ []; left = places_of groups })
opened_by profile locator (Err number) = Err (cause.Afl number)

-- the application interchange profile (82) and the file locator (94)
abbrev pub profile_and_locator : List ℕ → List ℕ → Result Opened Cause
profile_and_locator profile locator = opened_by profile locator (groups_of locator)

-- the value of format 1: two bytes of profile, then the locator
abbrev pub options_in_format_one : List ℕ → Result Opened Cause
options_in_format_one value = (if nat_lt (length value) 2 then Err (cause.Value (record { 0 = 0x80 })) else profile_and_locator (take 2 value) (drop 2 value))

-- the two objects of format 2
abbrev pub options_of_objects : Option (List ℕ) → Option (List ℕ) → Result Opened Cause
options_of_objects None locator = Err (cause.Missing (record { 0 = 0x82 }))
options_of_objects (Some profile) None = Err (cause.Missing (record { 0 = 0x94 }))
options_of_objects (Some profile) (Some locator) =
    if length profile == 2 then profile_and_locator profile locator else Err (cause.Value (record { 0 = 0x82 }))

abbrev pub options_in_format_two : List ℕ → Result (List ItemData) TlvFault → Result Opened Cause
options_in_format_two body (Ok items) = options_of_objects (first_value 0x82 items) (first_value 0x94 items)
options_in_format_two body (Err fault) = Err (coding_cause body)

abbrev pub options_by_format : List ℕ → Option (List ℕ) → Option (List ℕ) → Result Opened Cause
options_by_format body (Some value) template = options_in_format_one value
options_by_format body None (Some value) = options_in_format_two body (items_of value)
options_by_format body None None = Err (coding_cause body)

-- the body is one object 80, format 1, or one template 77, format 2
unfoldable pub options_in : List ℕ → Result Opened Cause
options_in body = options_by_format body (sole_value 0x80 (items_of body)) (sole_value 0x77 (items_of body))

-- what an answer says: the application is not to be used now, what reading begins with, or why the
-- transaction ends
pub data OptionsSaid : Type 0 where
  Refused : OptionsSaid
  Granted : Opened → OptionsSaid
  Faulty : Cause → OptionsSaid

abbrev pub granted_by : Result Opened Cause → OptionsSaid
granted_by (Ok start) = Granted start
granted_by (Err because) = Faulty because

abbrev pub response_said : Option ResponseData → OptionsSaid
response_said None = Faulty cause.Answer
response_said (Some said) =
    if said.status == conditions_not_satisfied then Refused
    else if said.status == no_error then granted_by (options_in said.body)
    else Faulty (cause.Status said.status)

-- what the answer to GET PROCESSING OPTIONS says: refused, granted or faulty
unfoldable pub options_said : List ℕ → OptionsSaid
options_said answer = response_said (response_of answer)

-- none: the application is refused
abbrev pub after_options : OptionsSaid → List (List ℕ) → Progress (Option Opened)
after_options Refused rest = Done None rest
after_options (Granted start) rest = Done (Some start) rest
after_options (Faulty because) rest = Stopped because

-- the step with these data
unfoldable pub initiated : List ℕ → List (List ℕ) → Progress (Option Opened)
initiated given [] = Wants (options_command given)
initiated given (answer ∷ rest) = after_options (options_said answer) rest

abbrev pub initiating_with : Option (List ℕ) → List (List ℕ) → Progress (Option Opened)
initiating_with None answers = Stopped (cause.Dol (record { 0 = 0x9F38 }))
initiating_with (Some given) answers = initiated given answers

-- the step over the answers, with the card's object list and the terminal's objects
abbrev pub initiating : Option (List ℕ) → Entries → List (List ℕ) → Progress (Option Opened)
initiating list terminal answers = initiating_with (options_data list terminal) answers
