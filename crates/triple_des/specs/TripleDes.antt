-- Triple DES under a key of sixteen bytes: FIPS 46-3 with the first key taken again as the third.
use Rattle.std.specs.Prelude.{ℕ, List, take, drop}
use Rattle.triple_des.specs.Des.{round_keys, enciphered, deciphered}

-- the round keys of the left and of the right eight bytes
abbrev pub left_keys : List ℕ → List (List ℕ)
left_keys key = round_keys (take 8 key)

abbrev pub right_keys : List ℕ → List (List ℕ)
right_keys key = round_keys (drop 8 key)

-- enciphered left, deciphered right, enciphered left
unfoldable pub tdes : List ℕ → List ℕ → List ℕ
tdes key block = enciphered (left_keys key) (deciphered (right_keys key) (enciphered (left_keys key) block))

-- deciphered left, enciphered right, deciphered left
unfoldable pub untdes : List ℕ → List ℕ → List ℕ
untdes key block = deciphered (left_keys key) (enciphered (right_keys key) (deciphered (left_keys key) block))
