-- The status words SW1 SW2 by their meaning (ISO/IEC 7816-4 section 5.1.3; EMV 4.3 Book 3 section
-- 6.3.5 and the tables of its section 6.5).
use Rattle.std.specs.Prelude.{ℕ, Bool, ◌+◌, ◌-◌, ◌/◌, ◌==◌, ◌||◌, if◌then◌else◌, Option, Some, None}

-- normal processing
abbrev pub no_error : ℕ
no_error = 0x9000

-- the selected file is invalidated
abbrev pub file_invalidated : ℕ
file_invalidated = 0x6283

-- the authentication failed; no information is given
abbrev pub authentication_failed : ℕ
authentication_failed = 0x6300

-- a counter from 0 to 15
abbrev pub counter_status : ℕ → ℕ
counter_status left = 0x63C0 + left

-- the length is wrong
abbrev pub wrong_length : ℕ
wrong_length = 0x6700

-- the authentication method is blocked
abbrev pub authentication_blocked : ℕ
authentication_blocked = 0x6983

-- the referenced data are invalidated
abbrev pub data_invalidated : ℕ
data_invalidated = 0x6984

-- the conditions of use are not satisfied
abbrev pub conditions_not_satisfied : ℕ
conditions_not_satisfied = 0x6985

-- the data objects of secure messaging are incorrect
abbrev pub wrong_secure_messaging : ℕ
wrong_secure_messaging = 0x6988

-- the function is not supported
abbrev pub function_not_supported : ℕ
function_not_supported = 0x6A81

-- the file is not found
abbrev pub file_not_found : ℕ
file_not_found = 0x6A82

-- the record is not found
abbrev pub record_not_found : ℕ
record_not_found = 0x6A83

-- the parameters P1 P2 are wrong
abbrev pub wrong_parameters : ℕ
wrong_parameters = 0x6A86

-- the referenced data are not found
abbrev pub data_not_found : ℕ
data_not_found = 0x6A88

-- the instruction is not supported
abbrev pub instruction_not_supported : ℕ
instruction_not_supported = 0x6D00

-- the class is not supported
abbrev pub class_not_supported : ℕ
class_not_supported = 0x6E00

-- what the counter says that a status gives, where it gives one
abbrev pub status_counter : ℕ → Option ℕ
status_counter status = (if status / 16 == 0x63C then Some (status - 0x63C0) else None)

-- a warning: SW1 is 62 or 63
abbrev pub is_warning : ℕ → Bool
is_warning status = (status / 256 == 0x62) || (status / 256 == 0x63)
