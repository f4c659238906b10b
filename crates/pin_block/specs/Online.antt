-- The PIN block in which a PIN goes to the issuer: format 0 of ISO 9564-1, enciphered.
use Rattle.std.specs.Prelude.{ℕ, ◌-◌, List, ◌++◌, length, take, drop, replicate}
use Rattle.triple_des.specs.Bits.{xor_bytes}
use Rattle.triple_des.specs.TripleDes.{tdes}
use Rattle.emv_dict.specs.Nibbles.{packed}
use Rattle.pin_block.specs.Block.{block_of}

-- the digits of the account number field: four zeros, and the twelve rightmost digits of the account number
-- without its check digit, the last one
abbrev pub account_digits : List ℕ → List ℕ
account_digits pan = replicate 4 0 ++ take 12 (drop (length pan - 13) pan)

-- the account number field
unfoldable pub account_field : List ℕ → List ℕ
account_field pan = packed (account_digits pan)

-- the PIN field of format 0 and the account number field, added bit by bit and enciphered
unfoldable pub online_of : List ℕ → List ℕ → List ℕ → List ℕ
online_of key pin pan = tdes key (xor_bytes (block_of 0 pin) (account_field pan))
