-- What holds of each thing that is made of a number, and of each two; the character of a digit.
use Rattle.std.proofs.Common.{◌≡◌, ◌<◌, ◌+◌, ◌&&◌, ℕ, true, List, [], ◌∷◌, ◌++◌, map, get_or, arith, sym, subst, zero-add}
use Rattle.std.specs.Prelude.{nat_le}
use Rattle.std.specs.List.{All, AllPairs, range_with_len}
use Rattle.std.proofs.lemmas.Bool.{and_from, le-leb}
use Rattle.std.proofs.lemmas.List.FromFn.{length-map-range_with_len, get_or-map-range_with_len, map-range_with_len_more}

pub all_numbered : {X : Type 0} (P : X → Type 0) (f : ℕ → X) (n : ℕ) → ((i : ℕ) → i < n → P (f i)) → All P (map f (range_with_len 0 n))
all_numbered P f n each k d within =
    let below : k < n = omega (arith, within, length-map-range_with_len f 0 n) in
    subst P (sym (get_or-map-range_with_len f 0 n k k d below (zero-add k))) (each k below)

pub pairs_numbered : {X : Type 0} (R : X → X → Type 0) (f : ℕ → X) (n : ℕ) → ((i j : ℕ) → i < j → j < n → R (f i) (f j)) → AllPairs R (map f (range_with_len 0 n))
pairs_numbered R f n each i j d order within =
    let last : j < n = omega (arith, within, length-map-range_with_len f 0 n) in
    let first : i < n = omega (arith, order, last) in
    subst (λ x. R x (get_or (map f (range_with_len 0 n)) j d)) (sym (get_or-map-range_with_len f 0 n i i d first (zero-add i)))
    (subst (λ y. R (f i) y) (sym (get_or-map-range_with_len f 0 n j j d last (zero-add j))) (each i j order last))

-- one more in a row
pub numbered_push : {X : Type 0} (f : ℕ → X) (old new : List X) (n : ℕ) (x : X) → new ≡ old ++ x ∷ [] → x ≡ f n → old ≡ map f (range_with_len 0 n)
    → new ≡ map f (range_with_len 0 (n + 1))
numbered_push f old new n x pushed is made = rw (pushed, is, made) (sym (map-range_with_len_more f 0 n n (zero-add n)))

-- a digit's character
pub digit_character : (digit : ℕ) → digit < 10 → (nat_le 48 (48 + digit) && nat_le (48 + digit) 57) ≡ true
digit_character digit within =
    and_from (nat_le 48 (48 + digit)) (nat_le (48 + digit) 57) (le-leb 48 (48 + digit) (omega arith)) (le-leb (48 + digit) 57 (omega (arith, within)))
