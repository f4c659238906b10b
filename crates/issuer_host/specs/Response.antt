-- The issuer authentication data (91) of a reply (EMV 4.3 Book 2 section 8.2).
use Rattle.std.specs.Prelude.{ℕ, ◌+◌, if◌then◌else◌, List, [], ◌∷◌, ◌++◌}
use Rattle.app_cryptogram.specs.Cryptograms.{arpc_of, arpc_two_of}
use Rattle.issuer_host.specs.declared.account.Method.{Method}
use Rattle.issuer_host.specs.declared.account.Method.TheVariants.{One, Two}
use Rattle.issuer_host.specs.declared.code.Code.{Code}
use Rattle.issuer_host.specs.Code.{code_bytes, is_approved}

-- the status bytes of method 2 (own): with code 00 the first says "approved" and the second "reset the totals", each by
-- its bit 8; the second's other bits are those of the account's status
abbrev pub status_for : ℕ → Code → List ℕ
status_for status code = (if is_approved code then 0x80 ∷ (0x80 + status) ∷ 0 ∷ 0 ∷ [] else 0 ∷ status ∷ 0 ∷ 0 ∷ [])

-- the response cryptogram and, behind it, what it covers beside the request's: by method 1 the code, by method 2 the
-- status bytes, without further ones
abbrev pub response_by : Method → ℕ → List ℕ → List ℕ → Code → List ℕ
response_by One status session arqc code = arpc_of session arqc (code_bytes code) ++ code_bytes code
response_by Two status session arqc code = arpc_two_of session arqc (status_for status code) [] ++ status_for status code
