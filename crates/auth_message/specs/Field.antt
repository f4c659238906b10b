-- What the value of a field may be (own).
use Rattle.std.specs.Prelude.{ℕ, Bool, not, ◌&&◌, ◌||◌, ◌==◌, nat_le, if◌then◌else◌, List, length, Result, Ok, Err}
use Rattle.std.specs.List.{list_all}
use Rattle.ber_tlv.specs.declared.tag.Tag.{Tag}
use Rattle.emv_dict.specs.Bcd.{has_digits}
use Rattle.emv_dict.specs.declared.pan.PanFault.{PanFault}
use Rattle.auth_message.specs.declared.fault.MessageFault.{MessageFault}
use Rattle.auth_message.specs.declared.fault.MessageFault.TheVariants.{Missing, Value}

-- the field of a tag is not there
abbrev pub missing_field : ℕ → MessageFault
missing_field tag = let named : Tag = record { 0 = tag } in Missing named

-- the field of a tag has a wrong value
abbrev pub wrong_field : ℕ → MessageFault
wrong_field tag = let named : Tag = record { 0 = tag } in Value named

-- each byte is two decimal digits
abbrev pub are_digits : List ℕ → Bool
are_digits value = list_all has_digits value

-- so many bytes, and where they have to be, decimal digits
abbrev pub is_fixed : ℕ → Bool → List ℕ → Bool
is_fixed count numeric value = length value == count && (not numeric || are_digits value)

-- the value where it has so many bytes, and where they have to be, decimal digits
unfoldable pub fixed_value : ℕ → Bool → ℕ → List ℕ → Result (List ℕ) MessageFault
fixed_value count numeric tag value = (if is_fixed count numeric value then Ok value else Err (wrong_field tag))

-- from so few to so many bytes
abbrev pub is_between : ℕ → ℕ → List ℕ → Bool
is_between least most value = nat_le least (length value) && nat_le (length value) most

unfoldable pub some_value : ℕ → ℕ → ℕ → List ℕ → Result (List ℕ) MessageFault
some_value least most tag value = (if is_between least most value then Ok value else Err (wrong_field tag))

-- the digits of an account number
abbrev pub pan_or_wrong : Result (List ℕ) PanFault → Result (List ℕ) MessageFault
pan_or_wrong (Ok digits) = Ok digits
pan_or_wrong (Err fault) = Err (wrong_field 0x5A)
