-- Blocks of bytes added bit by bit.
use Rattle.std.proofs.Common.{◌≡◌, ℕ, zero, suc, ◌<◌, List, [], ◌∷◌, length, get_or, bit_xor, refl, sym, ◌∙◌, ap, arith}
use Rattle.std.specs.List.{All}
use Rattle.std.specs.Int.Bits.{xor_assoc, xor_self, xor_zero_r}
use Rattle.std.proofs.lemmas.Nat.{xor_lt}
use Rattle.triple_des.specs.Bits.{xor_bytes}
use Rattle.triple_des.proofs.Undone.{IsBlock}
use Rattle.emv_dict.specs.Nibbles.{packed}
use Rattle.emv_dict.proofs.HexDigits.{length-packed}
use Rattle.pin_block.specs.Block.{IsPin, block_digits, block_of}
use Rattle.pin_block.proofs.Reading.{block_size, block_small}

twice : (a b : ℕ) → bit_xor (bit_xor a b) b ≡ a
twice a b = xor_assoc a b b ∙ ap (λ (c : ℕ). bit_xor a c) (xor_self b) ∙ xor_zero_r a

-- adding the same block twice changes nothing
pub xor_bytes-xor_bytes : (xs ys : List ℕ) → length xs ≡ length ys → xor_bytes (xor_bytes xs ys) ys ≡ xs
unfolding xor_bytes
xor_bytes-xor_bytes [] [] same = refl
xor_bytes-xor_bytes [] (y ∷ ys) same = absurd (omega arith)
xor_bytes-xor_bytes (x ∷ xs) [] same = absurd (omega arith)
xor_bytes-xor_bytes (x ∷ xs) (y ∷ ys) same =
    ap (λ (b : ℕ). b ∷ xor_bytes (xor_bytes xs ys) ys) (twice x y)
    ∙ ap (λ (bs : List ℕ). x ∷ bs) (xor_bytes-xor_bytes xs ys (omega arith))

length-xor_bytes : (xs ys : List ℕ) → length xs ≡ length ys → length (xor_bytes xs ys) ≡ length xs
unfolding xor_bytes
length-xor_bytes [] [] same = refl
length-xor_bytes [] (y ∷ ys) same = absurd (omega arith)
length-xor_bytes (x ∷ xs) [] same = absurd (omega arith)
length-xor_bytes (x ∷ xs) (y ∷ ys) same = ap (λ (n : ℕ). suc n) (length-xor_bytes xs ys (omega arith))

small-xor_bytes : (xs ys : List ℕ) → ((i : ℕ) → get_or xs i 0 < 256) → ((i : ℕ) → get_or ys i 0 < 256) → (i : ℕ) → get_or (xor_bytes xs ys) i 0 < 256
unfolding xor_bytes
small-xor_bytes [] ys small_x small_y i = omega arith
small-xor_bytes (x ∷ xs) [] small_x small_y i = omega arith
small-xor_bytes (x ∷ xs) (y ∷ ys) small_x small_y zero = xor_lt 8 x y (small_x 0) (small_y 0)
small-xor_bytes (x ∷ xs) (y ∷ ys) small_x small_y (suc i) = small-xor_bytes xs ys (λ k. small_x (suc k)) (λ k. small_y (suc k)) i

-- two blocks added are one
pub added : (xs ys : List ℕ) → IsBlock xs → IsBlock ys → IsBlock (xor_bytes xs ys)
added xs ys x y = record {
  long = length-xor_bytes xs ys (x.long ∙ sym y.long) ∙ x.long;
  small = small-xor_bytes xs ys x.small y.small;
}

packed_small : (ns : List ℕ) → All (λ d. d < 16) ns → (i : ℕ) → get_or (packed ns) i 0 < 256
unfolding packed
packed_small [] small i = omega arith
packed_small (h ∷ []) small i = omega arith
packed_small (h ∷ l ∷ ns) small zero =
    let high : h < 16 = small 0 0 (omega arith) in
    let low : l < 16 = small 1 0 (omega arith) in
    omega arith
packed_small (h ∷ l ∷ ns) small (suc i) = packed_small ns (λ k d within. small (suc (suc k)) d (omega arith)) i

-- a PIN's block is one
pub pin_block : (format : ℕ) (pin : List ℕ) → format < 16 → IsPin pin → IsBlock (block_of format pin)
unfolding block_of
pin_block format pin small is = record {
  long = length-packed (block_digits format pin) 8 (block_size format pin is);
  small = packed_small (block_digits format pin) (block_small format pin small is);
}
