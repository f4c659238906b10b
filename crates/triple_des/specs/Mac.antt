-- The message authentication code of ISO/IEC 9797-1: algorithm 3 with padding method 2, as EMV 4.3
-- Book 2 Annex A1.2 takes it.
use Rattle.std.specs.Prelude.{ℕ, zero, suc, List, [], ◌∷◌, ◌++◌, ◌-◌, ◌/◌, ◌%◌, length, take, drop, replicate}
use Rattle.std.specs.List.{fold}
use Rattle.triple_des.specs.Bits.{xor_bytes}
use Rattle.triple_des.specs.Des.{enciphered, deciphered}
use Rattle.triple_des.specs.TripleDes.{left_keys, right_keys}

-- the text, a byte 80 and the fewest bytes 00 up to a multiple of eight
abbrev pub padded_text : List ℕ → List ℕ
padded_text text = text ++ 128 ∷ replicate (7 - length text % 8) 0

-- the first n blocks of eight bytes
unfoldable pub first_blocks : ℕ → List ℕ → List (List ℕ)
first_blocks zero bytes = []
first_blocks (suc n) bytes = take 8 bytes ∷ first_blocks n (drop 8 bytes)

abbrev pub blocks : List ℕ → List (List ℕ)
blocks bytes = first_blocks (length bytes / 8) bytes

-- single DES chains the blocks: each is added to what stood before it, and the sum enciphered
unfoldable pub chained_from : List (List ℕ) → List ℕ → List (List ℕ) → List ℕ
chained_from keys state all = fold (λ state block. enciphered keys (xor_bytes state block)) state all

-- from a zero block on
abbrev pub chained : List (List ℕ) → List (List ℕ) → List ℕ
chained keys all = chained_from keys (replicate 8 0) all

-- chained with the left key; the last result is deciphered right and enciphered left
unfoldable pub mac : List ℕ → List ℕ → List ℕ
mac key text =
    let last = chained (left_keys key) (blocks (padded_text text)) in
    enciphered (left_keys key) (deciphered (right_keys key) last)
