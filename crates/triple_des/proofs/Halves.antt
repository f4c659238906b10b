-- The halves of a word.
use Rattle.std.proofs.Common.{◌≡◌, ℕ, ◌+◌, ◌*◌, ◌/◌, ◌%◌, ◌^◌, ◌<◌, List, [], ◌∷◌, ◌++◌, take, drop, refl, ap, sym, ◌∙◌, arith}
use Rattle.std.specs.Int.{bit_at}
use Rattle.std.proofs.lemmas.List.{take_at, drop_at}
use Rattle.triple_des.specs.Bits.{bits}
use Rattle.triple_des.specs.Des.{halves_of, swapped, rotated_left}
use Rattle.triple_des.proofs.Words.{length-bits, bits_split, bits_mod, bits_cat, bits_push}

pub take-bits : (a b x : ℕ) → take a (bits (a + b) x) ≡ bits a (x / 2 ^ b)
take-bits a b x =
    ap (λ (l : List ℕ). take a l) (bits_split a b x) ∙ take_at (bits a (x / 2 ^ b)) (bits b x) a (length-bits a (x / 2 ^ b))

pub drop-bits : (a b x : ℕ) → drop a (bits (a + b) x) ≡ bits b x
drop-bits a b x =
    ap (λ (l : List ℕ). drop a l) (bits_split a b x) ∙ drop_at (bits a (x / 2 ^ b)) (bits b x) a (length-bits a (x / 2 ^ b))

-- a word cut into halves, and put together again with the halves swapped
pub halves_of-bits : (x : ℕ) → halves_of (bits 64 x) ≡ (bits 32 (x / 2 ^ 32), bits 32 (x % 2 ^ 32))
halves_of-bits x =
    ap (λ (l : List ℕ). (l, drop 32 (bits 64 x))) (take-bits 32 32 x)
    ∙ ap (λ (l : List ℕ). (bits 32 (x / 2 ^ 32), l)) (drop-bits 32 32 x ∙ sym (bits_mod 32 x 32 (omega arith)))

pub bits-swapped : (left right : ℕ) → left < 2 ^ 32 → bits 64 (right * 2 ^ 32 + left) ≡ swapped (bits 32 left, bits 32 right)
bits-swapped left right small = bits_cat 32 32 right left small

first_bit : (x : ℕ) → rotated_left 1 (bits 28 x) ≡ bits 27 x ++ bit_at x 27 ∷ []
unfolding bits
first_bit x = refl

-- one place to the left
pub bits-rotated_left : (half : ℕ) → half < 2 ^ 28 → bits 28 (half % 2 ^ 27 * 2 + half / 2 ^ 27) ≡ rotated_left 1 (bits 28 half)
bits-rotated_left half small =
    let first : half / 2 ^ 27 < 2 = omega arith in
    let bit : half / 2 ^ 27 ≡ bit_at half 27 = omega arith in
    bits_push 27 (half % 2 ^ 27) (half / 2 ^ 27) first
    ∙ ap (λ (l : List ℕ). l ++ (half / 2 ^ 27) ∷ []) (bits_mod 27 half 27 (omega arith))
    ∙ ap (λ (b : ℕ). bits 27 half ++ b ∷ []) bit
    ∙ sym (first_bit half)
