-- The Authorisation Response Code (8A) of a decision (own) (ISO 8583).
use Rattle.std.specs.Prelude.{ℕ, Bool, true, false, List, codes}
use Rattle.issuer_host.specs.declared.code.Code.{Code}
use Rattle.issuer_host.specs.declared.code.Code.TheVariants.{Approved, Declined, UnknownAccount, NoFunds, Expired, WrongPin}

-- its two characters
abbrev pub code_bytes : Code → List ℕ
code_bytes Approved = codes "00"
code_bytes Declined = codes "05"
code_bytes UnknownAccount = codes "14"
code_bytes NoFunds = codes "51"
code_bytes Expired = codes "54"
code_bytes WrongPin = codes "55"

-- whether the host's code is 00
abbrev pub is_approved : Code → Bool
is_approved Approved = true
is_approved Declined = false
is_approved UnknownAccount = false
is_approved NoFunds = false
is_approved Expired = false
is_approved WrongPin = false
