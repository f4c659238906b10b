-- PIN blocks of ISO 9564-1: eight bytes, sixteen hexadecimal digits (EMV 4.3 Book 3 section 6.5.12).
use Rattle.std.specs.Prelude.{ℕ, ◌-◌, ◌≤◌, List, ◌∷◌, ◌++◌, length, replicate}
use Rattle.emv_dict.specs.Digits.{AllDecimal, least_pin, most_pin}
use Rattle.emv_dict.specs.Nibbles.{packed}

-- a PIN has 4 to 12 decimal digits
pub record IsPin (pin : List ℕ) : Type 0 where
  pub least : least_pin ≤ length pin
  pub most : length pin ≤ most_pin
  pub decimal : AllDecimal pin

-- the digits of a block: its format's number, the number of PIN digits, these digits, and the filler F
abbrev pub block_digits : ℕ → List ℕ → List ℕ
block_digits format pin = format ∷ length pin ∷ pin ++ replicate (14 - length pin) 15

-- the block of a PIN in a format
unfoldable pub block_of : ℕ → List ℕ → List ℕ
block_of format pin = packed (block_digits format pin)
