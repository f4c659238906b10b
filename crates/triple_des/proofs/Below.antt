-- Rules of finitely many cases, tested one by one.
use Rattle.std.proofs.Common.{◌≡◌, Bool, true, false, ◌&&◌, nat_eq, ℕ, zero, suc, ◌<◌, List, [], ◌∷◌, refl, ap, ◌∙◌, arith}
use Rattle.std.proofs.lemmas.Bool.{and_parts, eqb-true}

-- a test that each number below n passes
abbrev pub all_below : (ℕ → Bool) → ℕ → Bool
all_below p zero = true
all_below p (suc n) = p n && all_below p n

pub below_at : (p : ℕ → Bool) (n i : ℕ) → all_below p n ≡ true → i < n → p i ≡ true
below_at p zero i all below = absurd (omega arith)
below_at p (suc n) i all below =
    let parts = and_parts (p n) (all_below p n) all in
    elim (nat_eq i n) as (λ b. nat_eq i n ≡ b → p i ≡ true) [
      | true ↦ λ same. ap p (eqb-true i n same) ∙ parts.0
      | false ↦ λ other. below_at p n i parts.1 (grind (arith, other))
    ] refl

-- whether two lists of numbers are the same
abbrev pub same : List ℕ → List ℕ → Bool
same [] [] = true
same [] (y ∷ ys) = false
same (x ∷ xs) [] = false
same (x ∷ xs) (y ∷ ys) = nat_eq x y && same xs ys

pub same-true : (xs ys : List ℕ) → same xs ys ≡ true → xs ≡ ys
same-true [] [] is = refl
same-true [] (y ∷ ys) is = cc
same-true (x ∷ xs) [] is = cc
same-true (x ∷ xs) (y ∷ ys) is =
    let parts = and_parts (nat_eq x y) (same xs ys) is in
    ap (λ (n : ℕ). n ∷ xs) (eqb-true x y parts.0) ∙ ap (λ (l : List ℕ). y ∷ l) (same-true xs ys parts.1)
