-- A word seen as its bits.
use Rattle.std.proofs.Common.{◌≡◌, ℕ, zero, suc, ◌+◌, ◌*◌, ◌/◌, ◌%◌, ◌^◌, ◌<◌, ◌≤◌, List, [], ◌∷◌, ◌++◌, length, refl, ap, sym, ◌∙◌, arith, bit_xor}
use Rattle.std.specs.Int.{bit_at}
use Rattle.std.proofs.lemmas.Nat.{div-mul-add, pow-add, div-add-mod'}
use Rattle.std.proofs.lemmas.Nat.Bits.{bit_at-suc, bit_at_lowest, bit_at_cat_low, bit_at_xor}
use Rattle.std.proofs.Math.Nat.{div-div-eq-div-mul, mul_comm}
use Rattle.triple_des.specs.Bits.{bits, xor}

pub length-bits : (n x : ℕ) → length (bits n x) ≡ n
unfolding bits
length-bits zero x = refl
length-bits (suc n) x = ap (λ (k : ℕ). suc k) (length-bits n x)

-- words whose low bits agree
pub bits_same : (n x y : ℕ) → ((i : ℕ) → i < n → bit_at x i ≡ bit_at y i) → bits n x ≡ bits n y
unfolding bits
bits_same zero x y same = refl
bits_same (suc n) x y same =
    let first : bit_at x n ≡ bit_at y n = same n (omega arith) in
    let rest : bits n x ≡ bits n y = bits_same n x y (λ i below. same i (omega arith)) in
    cc

-- one bit more at the right
pub bits_push : (n x bit : ℕ) → bit < 2 → bits (suc n) (x * 2 + bit) ≡ bits n x ++ bit ∷ []
unfolding bits
bits_push zero x bit small =
    let e : bit_at (x * 2 + bit) 0 ≡ bit = bit_at_lowest (x * 2 + bit) ∙ (omega arith) in
    ap (λ (b : ℕ). b ∷ []) e
bits_push (suc n) x bit small =
    let half : (x * 2 + bit) / 2 ≡ x = omega arith in
    let first : bit_at (x * 2 + bit) (suc n) ≡ bit_at x n = bit_at-suc (x * 2 + bit) n ∙ ap (λ (w : ℕ). bit_at w n) half in
    let rest : bits (suc n) (x * 2 + bit) ≡ bits n x ++ bit ∷ [] = bits_push n x bit small in
    ap (λ (b : ℕ). b ∷ bits (suc n) (x * 2 + bit)) first ∙ ap (λ (l : List ℕ). bit_at x n ∷ l) rest

-- a bit above the lowest b is one of the word without them
bit_at_add : (a b x : ℕ) → bit_at x (a + b) ≡ bit_at (x / 2 ^ b) a
bit_at_add a b x =
    let power : 2 ^ (a + b) ≡ 2 ^ b * 2 ^ a = pow-add 2 a b ∙ mul_comm (2 ^ a) (2 ^ b) in
    ap (λ (w : ℕ). x / w % 2) power ∙ ap (λ (w : ℕ). w % 2) (sym (div-div-eq-div-mul x (2 ^ b) (2 ^ a)))

-- the high bits, and then the low
pub bits_split : (a b x : ℕ) → bits (a + b) x ≡ bits a (x / 2 ^ b) ++ bits b x
unfolding bits
bits_split zero b x = let e : 0 + b ≡ b = omega arith in ap (λ (n : ℕ). bits n x) e
bits_split (suc a) b x =
    let e : suc a + b ≡ suc (a + b) = omega arith in
    ap (λ (n : ℕ). bits n x) e
    ∙ ap (λ (bit : ℕ). bit ∷ bits (a + b) x) (bit_at_add a b x)
    ∙ ap (λ (l : List ℕ). bit_at (x / 2 ^ b) a ∷ l) (bits_split a b x)

pub bits_low : (n hi lo k : ℕ) → n ≤ k → bits n (hi * 2 ^ k + lo) ≡ bits n lo
bits_low n hi lo k few = bits_same n (hi * 2 ^ k + lo) lo (λ i below. bit_at_cat_low hi k lo i (omega arith))

-- a remainder keeps the low bits
pub bits_mod : (n x k : ℕ) → n ≤ k → bits n (x % 2 ^ k) ≡ bits n x
bits_mod n x k few =
    sym (bits_low n (x / 2 ^ k) (x % 2 ^ k) k few) ∙ ap (λ (w : ℕ). bits n w) (div-add-mod' x (2 ^ k))

pub bits_cat : (a b hi lo : ℕ) → lo < 2 ^ b → bits (a + b) (hi * 2 ^ b + lo) ≡ bits a hi ++ bits b lo
bits_cat a b hi lo small =
    bits_split a b (hi * 2 ^ b + lo)
    ∙ ap (λ (w : ℕ). bits a w ++ bits b (hi * 2 ^ b + lo)) (div-mul-add hi (2 ^ b) lo small)
    ∙ ap (λ (l : List ℕ). bits a hi ++ l) (bits_low b hi lo b (omega arith))

pub bits_xor : (n x y : ℕ) → bits n (bit_xor x y) ≡ xor (bits n x) (bits n y)
unfolding bits xor
bits_xor zero x y = refl
bits_xor (suc n) x y =
    ap (λ (bit : ℕ). bit ∷ bits n (bit_xor x y)) (bit_at_xor x y n)
    ∙ ap (λ (l : List ℕ). (bit_at x n + bit_at y n) % 2 ∷ l) (bits_xor n x y)
