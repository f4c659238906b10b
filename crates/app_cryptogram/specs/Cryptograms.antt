-- The cryptograms between a card and its issuer, EMV 4.3 Book 2 sections 8 and 9, under session keys of sixteen bytes
-- (EMV 4.3 Book 2 section 8.1).
use Rattle.std.specs.Prelude.{ℕ, List, [], ◌∷◌, ◌++◌, take, replicate}
use Rattle.std.specs.Int.{to_be_bytes, w16}
use Rattle.triple_des.specs.Bits.{xor_bytes}
use Rattle.triple_des.specs.TripleDes.{tdes}
use Rattle.triple_des.specs.Mac.{mac}
use Rattle.app_cryptogram.specs.declared.fields.AcFields.{AcFields}

-- the fields of the application cryptogram in their order (Book 2 section 8.1.1)
unfoldable pub ac_fields_bytes : AcFields → List ℕ
ac_fields_bytes fields =
    fields.amount ++ fields.other ++ fields.country ++ fields.tvr ++ fields.currency ++ fields.date
    ++ (fields.trade ∷ []) ++ fields.number ++ fields.aip ++ fields.counter

-- the application cryptogram: the code of the fields and, behind them, the whole issuer application data
unfoldable pub ac_of : List ℕ → AcFields → List ℕ → List ℕ
ac_of session fields iad = mac session (ac_fields_bytes fields ++ iad)

-- the response cryptogram of method 1: the request cryptogram, with the response code added to its
-- first two bytes, enciphered (Book 2 section 8.2.1)
unfoldable pub arpc_of : List ℕ → List ℕ → List ℕ → List ℕ
arpc_of session arqc code = tdes session (xor_bytes arqc (code ++ replicate 6 0))

-- the response cryptogram of method 2: the leftmost four bytes of the code of the request cryptogram, the four
-- status bytes and the further bytes (Book 2 section 8.2.2)
unfoldable pub arpc_two_of : List ℕ → List ℕ → List ℕ → List ℕ → List ℕ
arpc_two_of session arqc status further = take 4 (mac session (arqc ++ status ++ further))

-- the code of a script command: its header, the transaction counter, the first cryptogram and the
-- command's data (Book 2 section 9.2)
unfoldable pub script_mac_of : List ℕ → List ℕ → ℕ → List ℕ → List ℕ → List ℕ
script_mac_of session header counter cryptogram payload =
    mac session (header ++ to_be_bytes w16 counter ++ cryptogram ++ payload)
