-- The session keys of a transaction from the card's master key, EMV 4.3 Book 2 Annex A1.3 (common session
-- key derivation).
use Rattle.std.specs.Prelude.{ℕ, List, ◌++◌, replicate, slice_set}
use Rattle.std.specs.Int.{to_be_bytes, w16}
use Rattle.triple_des.specs.TripleDes.{tdes}

-- R with F0 as its third byte gives the left half, and with 0F the right
unfoldable pub session_key_of : List ℕ → List ℕ → List ℕ
session_key_of master r = tdes master (slice_set r 2 0xf0) ++ tdes master (slice_set r 2 0x0f)

-- for the application cryptogram R is the transaction counter and six zero bytes
abbrev pub session_ac_of : List ℕ → ℕ → List ℕ
session_ac_of master counter = session_key_of master (to_be_bytes w16 counter ++ replicate 6 0)

-- for scripts R is the first cryptogram of the transaction
abbrev pub session_script_of : List ℕ → List ℕ → List ℕ
session_script_of master r = session_key_of master r
