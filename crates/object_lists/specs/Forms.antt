-- The forms that the values of a card's objects must have once its records are read (EMV 4.3 Book 3
-- section 7.2 and Annex A).
use Rattle.std.specs.Prelude.{◌≡◌, ℕ, Bool, true, ◌==◌, ◌%◌, ◌&&◌, nat_le, is_some, is_ok, IsTrue, List, length, slice_index, Some}
use Rattle.emv_dict.specs.Date.{date_of, has_digits}
use Rattle.emv_dict.specs.Pan.{pan_of}
use Rattle.emv_dict.specs.Settings.{is_code}
use Rattle.env_map.specs.Entries.{Entries, value_of}
use Rattle.object_lists.specs.DolEntries.{dol_of}

-- 13 to 19 digits, filled with F
abbrev pub is_account_number : List ℕ → Bool
is_account_number value = is_ok (pan_of value)

-- year, month and day, two digits a byte
abbrev pub is_date_value : List ℕ → Bool
is_date_value value = length value == 3 && is_some (date_of value)

-- the code of a country or of a currency: two bytes of digits, the first digit 0
abbrev pub is_code_value : List ℕ → Bool
is_code_value value = length value == 2 && is_code value

-- one byte of two digits
abbrev pub is_two_digits : List ℕ → Bool
is_two_digits value = length value == 1 && has_digits (slice_index value 0)

-- a data object list that can be read; no answer of a card has room for one above 255 bytes
abbrev pub is_object_list : List ℕ → Bool
is_object_list value = nat_le (length value) 255 && is_ok (dol_of value)

-- two amounts of four bytes each, and rules of two bytes each; no answer of a card has room for one above 255 bytes
abbrev pub is_verification_list : List ℕ → Bool
is_verification_list value = nat_le 8 (length value) && (nat_le (length value) 255 && length value % 2 == 0)

-- so many bytes
abbrev pub has_count : ℕ → List ℕ → Bool
has_count count value = length value == count

abbrev pub has_any_form : List ℕ → Bool
has_any_form value = true

-- the object is there and has the form
pub record Has (tag : ℕ) (form : List ℕ → Bool) (entries : Entries) : Type 0 where
  pub value : List ℕ
  pub there : value_of tag entries ≡ Some value
  pub formed : IsTrue (form value)

-- the object has the form where it is there
abbrev pub HasIfThere : ℕ → (List ℕ → Bool) → Entries → Type 0
HasIfThere tag form entries = (value : List ℕ) → value_of tag entries ≡ Some value → IsTrue (form value)

-- the mandatory objects are there, and each object that is checked has its form
pub record HasForms (entries : Entries) : Type 0 where
  pub interchange_profile : Has 0x82 (has_count 2) entries
  pub file_locator : Has 0x94 has_any_form entries
  pub account_number : Has 0x5A is_account_number entries
  pub expiration_date : Has 0x5F24 is_date_value entries
  pub effective_date : HasIfThere 0x5F25 is_date_value entries
  pub issuer_country : HasIfThere 0x5F28 is_code_value entries
  pub sequence_number : HasIfThere 0x5F34 is_two_digits entries
  pub first_list : Has 0x8C is_object_list entries
  pub second_list : Has 0x8D is_object_list entries
  pub verification_list : HasIfThere 0x8E is_verification_list entries
  pub usage_control : HasIfThere 0x9F07 (has_count 2) entries
  pub version_number : HasIfThere 0x9F08 (has_count 2) entries
  pub default_code : HasIfThere 0x9F0D (has_count 5) entries
  pub denial_code : HasIfThere 0x9F0E (has_count 5) entries
  pub online_code : HasIfThere 0x9F0F (has_count 5) entries
  pub lower_limit : HasIfThere 0x9F14 (has_count 1) entries
  pub upper_limit : HasIfThere 0x9F23 (has_count 1) entries
  pub application_currency : HasIfThere 0x9F42 is_code_value entries
