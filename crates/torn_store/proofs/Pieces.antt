-- Bytes in two pieces, and a part with which they begin.
use Rattle.std.proofs.Common.{◌≡◌, ◌<◌, ◌≤◌, ◌-◌, ℕ, zero, suc, List, [], ◌∷◌, ◌++◌, length, drop, refl, ap, ◌∙◌, arith, Bool, true, false, ◌&&◌, ◌==◌}
use Rattle.std.specs.List.{starts_with}

both_first : (a b c : Bool) → (a && (b && c)) ≡ ((a && b) && c)
both_first true b c = refl
both_first false b c = refl

-- the part in two pieces too: the first no longer than the bytes' first, and shorter only where nothing is behind it
pub begins_apart : (near far head tail : List ℕ) → length head ≤ length near → (length head < length near → tail ≡ [])
    → starts_with ◌==◌ (near ++ far) (head ++ tail) ≡ (starts_with ◌==◌ near head && starts_with ◌==◌ far tail)
begins_apart [] far [] tail short whole = refl
begins_apart [] far (h ∷ head) tail short whole = absurd (omega arith)
begins_apart (n ∷ near) far [] tail short whole = rw (whole (omega arith)) refl
begins_apart (n ∷ near) far (h ∷ head) tail short whole =
    ap (λ (b : Bool). (h == n) && b) (begins_apart near far head tail (omega arith) (λ below. whole (omega arith)))
    ∙ both_first (h == n) (starts_with ◌==◌ near head) (starts_with ◌==◌ far tail)

-- what stands from a place on, piece by piece
pub drop_apart : (n m : ℕ) (xs ys : List ℕ) → m ≡ n - length xs → drop n (xs ++ ys) ≡ drop n xs ++ drop m ys
drop_apart zero m [] ys rest = let none : zero ≡ m = omega (arith, rest) in ap (λ (k : ℕ). drop k ys) none
drop_apart zero m (x ∷ xs) ys rest = let none : zero ≡ m = omega (arith, rest) in ap (λ (k : ℕ). x ∷ xs ++ drop k ys) none
drop_apart (suc n) m [] ys rest = let all : suc n ≡ m = omega (arith, rest) in ap (λ (k : ℕ). drop k ys) all
drop_apart (suc n) m (x ∷ xs) ys rest = drop_apart n m xs ys (omega (arith, rest))
