-- Bytes as hexadecimal digits (EMV 4.3 Book 3 section 4.3).
use Rattle.std.specs.Prelude.{ℕ, ◌+◌, ◌*◌, ◌/◌, ◌%◌, List, [], ◌∷◌, nat_le, Bool}

-- each byte's high half, then its low one
unfoldable pub nibbles : List ℕ → List ℕ
nibbles [] = []
nibbles (b ∷ bs) = b / 16 ∷ b % 16 ∷ nibbles bs

-- a hexadecimal digit that is a decimal one
abbrev pub is_decimal : ℕ → Bool
is_decimal nibble = nat_le nibble 9

-- two hexadecimal digits a byte
unfoldable pub packed : List ℕ → List ℕ
packed (high ∷ low ∷ rest) = (high * 16 + low) ∷ packed rest
packed (high ∷ []) = []
packed [] = []
