-- What a terminal tries once the records are read: the mandatory objects are there (EMV 4.3 Book 3 section 7.2), and
-- the values have their forms (Annex A; section 6.5.8.4).
use Rattle.std.specs.Prelude.{ℕ, Bool, true, is_some, List, [], ◌∷◌, Option, Some, None, if◌then◌else◌}
use Rattle.std.specs.Option.{option_or}
use Rattle.emv_dict.specs.declared.ending.Cause.{Cause}
use Rattle.emv_dict.specs.declared.ending.Cause.TheVariants.{Missing, Value, Dol}
use Rattle.env_map.specs.Entries.{Entries, value_of}
use Rattle.object_lists.specs.Forms.{Has, has_count, has_any_form, is_account_number, is_date_value, is_code_value, is_two_digits, is_object_list, is_verification_list}
use Rattle.object_lists.specs.declared.checked.Check.{Check}
use Rattle.object_lists.specs.declared.checked.Check.TheVariants.{AccountNumber, Day, Code, TwoDigits, ObjectList, VerificationList, Bytes}

-- the objects that an answer to GET PROCESSING OPTIONS gave
pub record HasOptions (entries : Entries) : Type 0 where
  pub profile : Has 0x82 (has_count 2) entries
  pub locator : Has 0x94 has_any_form entries

-- the mandatory objects of the records, in the order in which they are looked for
abbrev pub mandatory : List ℕ
mandatory = 0x5F24 ∷ 0x5A ∷ 0x8C ∷ 0x8D ∷ []

-- the first of these that is not there
abbrev pub missing_from : List ℕ → Entries → Option Cause
missing_from [] entries = None
missing_from (tag ∷ tags) entries = (if is_some (value_of tag entries) then missing_from tags entries else Some (Missing (record { 0 = tag })))

-- the objects that are tried in this order, and the form that each must have
unfoldable pub checked : List (ℕ × Check)
checked =
    (0x5A, AccountNumber) ∷ (0x5F24, Day) ∷ (0x5F25, Day) ∷ (0x5F28, Code) ∷ (0x5F34, TwoDigits)
    ∷ (0x8C, ObjectList) ∷ (0x8D, ObjectList) ∷ (0x8E, VerificationList) ∷ (0x9F07, Bytes 2) ∷ (0x9F08, Bytes 2)
    ∷ (0x9F0D, Bytes 5) ∷ (0x9F0E, Bytes 5) ∷ (0x9F0F, Bytes 5) ∷ (0x9F14, Bytes 1) ∷ (0x9F23, Bytes 1) ∷ (0x9F42, Code) ∷ []

abbrev pub form_of : Check → List ℕ → Bool
form_of AccountNumber = is_account_number
form_of Day = is_date_value
form_of Code = is_code_value
form_of TwoDigits = is_two_digits
form_of ObjectList = is_object_list
form_of VerificationList = is_verification_list
form_of (Bytes count) = has_count count

abbrev pub passes_if_there : Check → Option (List ℕ) → Bool
passes_if_there check None = true
passes_if_there check (Some value) = form_of check value

-- what a wrong value is a cause of: an object list has a cause of its own
abbrev pub wrong_cause : Check → ℕ → Cause
wrong_cause AccountNumber tag = Value (record { 0 = tag })
wrong_cause Day tag = Value (record { 0 = tag })
wrong_cause Code tag = Value (record { 0 = tag })
wrong_cause TwoDigits tag = Value (record { 0 = tag })
wrong_cause ObjectList tag = Dol (record { 0 = tag })
wrong_cause VerificationList tag = Value (record { 0 = tag })
wrong_cause (Bytes count) tag = Value (record { 0 = tag })

-- the first object that is there and has another form
unfoldable pub first_wrong : List (ℕ × Check) → Entries → Option Cause
first_wrong [] entries = None
first_wrong (row ∷ rows) entries =
    if passes_if_there row.1 (value_of row.0 entries) then first_wrong rows entries else Some (wrong_cause row.1 row.0)

-- a mandatory object that is not there, then an object of another form
unfoldable pub objects_fault : Entries → Option Cause
objects_fault entries = option_or (missing_from mandatory entries) (first_wrong checked entries)
