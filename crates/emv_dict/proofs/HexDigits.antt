-- Bytes as hexadecimal digits: their number, and the one at a place.
use Rattle.std.proofs.Common.{◌≡◌, ℕ, zero, suc, ◌+◌, ◌*◌, ◌/◌, ◌%◌, ◌<◌, List, [], ◌∷◌, length, get_or, refl, ◌∙◌, ap, arith}
use Rattle.std.specs.List.{All}
use Rattle.emv_dict.specs.Nibbles.{nibbles, packed}

-- two digits a byte
pub length-nibbles : (bs : List ℕ) → length (nibbles bs) ≡ 2 * length bs
unfolding nibbles
length-nibbles [] = refl
length-nibbles (b ∷ bs) = let rest : length (nibbles bs) ≡ 2 * length bs = length-nibbles bs in omega arith

-- the digit at an even place is a high half
pub high_half : (bs : List ℕ) (k i : ℕ) → i ≡ 2 * k → i < 2 * length bs → get_or (nibbles bs) i 0 ≡ get_or bs k 0 / 16
unfolding nibbles
high_half [] k i even within = absurd (omega arith)
high_half (b ∷ bs) zero zero even within = refl
high_half (b ∷ bs) zero (suc i) even within = absurd (omega arith)
high_half (b ∷ bs) (suc k) zero even within = absurd (omega arith)
high_half (b ∷ bs) (suc k) (suc zero) even within = absurd (omega arith)
high_half (b ∷ bs) (suc k) (suc (suc i)) even within = high_half bs k i (omega arith) (omega arith)

-- the digit at an odd place is a low half
pub low_half : (bs : List ℕ) (k i : ℕ) → i ≡ 2 * k + 1 → i < 2 * length bs → get_or (nibbles bs) i 0 ≡ get_or bs k 0 % 16
unfolding nibbles
low_half [] k i odd within = absurd (omega arith)
low_half (b ∷ bs) zero zero odd within = absurd (omega arith)
low_half (b ∷ bs) zero (suc zero) odd within = refl
low_half (b ∷ bs) zero (suc (suc i)) odd within = absurd (omega arith)
low_half (b ∷ bs) (suc k) zero odd within = absurd (omega arith)
low_half (b ∷ bs) (suc k) (suc zero) odd within = absurd (omega arith)
low_half (b ∷ bs) (suc k) (suc (suc i)) odd within = low_half bs k i (omega arith) (omega arith)

high_of : (h l : ℕ) → l < 16 → (h * 16 + l) / 16 ≡ h
high_of h l small = omega arith

low_of : (h l : ℕ) → l < 16 → (h * 16 + l) % 16 ≡ l
low_of h l small = omega arith

-- packed digits are given back
pub nibbles-packed : (ns : List ℕ) (n : ℕ) → length ns ≡ 2 * n → All (λ d. d < 16) ns → nibbles (packed ns) ≡ ns
unfolding nibbles packed
nibbles-packed [] n even small = refl
nibbles-packed (h ∷ []) n odd small = absurd (omega arith)
nibbles-packed (h ∷ l ∷ rest) zero even small = absurd (omega arith)
nibbles-packed (h ∷ l ∷ rest) (suc n) even small =
    let low_small : l < 16 = small 1 0 (omega arith) in
    let before : nibbles (packed rest) ≡ rest = nibbles-packed rest n (omega arith) (λ k d within. small (suc (suc k)) d (omega arith)) in
    ap (λ (x : ℕ). x ∷ (h * 16 + l) % 16 ∷ nibbles (packed rest)) (high_of h l low_small)
    ∙ ap (λ (x : ℕ). h ∷ x ∷ nibbles (packed rest)) (low_of h l low_small)
    ∙ ap (λ (xs : List ℕ). h ∷ l ∷ xs) before

-- as many bytes as pairs of digits
pub length-packed : (ns : List ℕ) (n : ℕ) → length ns ≡ 2 * n → length (packed ns) ≡ n
unfolding packed
length-packed [] n even = omega arith
length-packed (h ∷ []) n odd = absurd (omega arith)
length-packed (h ∷ l ∷ rest) zero even = absurd (omega arith)
length-packed (h ∷ l ∷ rest) (suc n) even = let before : length (packed rest) ≡ n = length-packed rest n (omega arith) in omega arith
