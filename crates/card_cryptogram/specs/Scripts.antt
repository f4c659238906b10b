-- What an issuer's script commands hold under session keys: a code, and a PIN that is enciphered (EMV 4.3 Book 2
-- section 9; EMV 4.3 Book 2 sections 9.2, 9.3).
use Rattle.std.specs.Prelude.{ℕ, List, ◌-◌, Bool, length, take, drop}
use Rattle.std.specs.Str.{bytes_eq}
use Rattle.app_cryptogram.specs.Cryptograms.{script_mac_of}
use Rattle.card_keys.specs.Session.{session_script_of}
use Rattle.triple_des.specs.TripleDes.{untdes}

-- a script command's data without the code at its end
abbrev pub payload_of : List ℕ → List ℕ
payload_of body = take (length body - 8) body

-- the last eight bytes of a script command's data are the code of its header, the transaction counter, the
-- first cryptogram and the data before them
unfoldable pub has_code : List ℕ → List ℕ → ℕ → List ℕ → List ℕ → Bool
has_code key first counter header body =
    bytes_eq (drop (length body - 8) body) (script_mac_of (session_script_of key first) header counter first (payload_of body))

-- the block that is enciphered in a script command's first eight bytes
unfoldable pub block_in : List ℕ → List ℕ → List ℕ → List ℕ
block_in key first body = untdes (session_script_of key first) (take 8 body)
