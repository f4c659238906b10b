-- The first of a list that passes a test.
use Rattle.std.proofs.Common.{◌≡◌, ℕ, ◌+◌, ◌<◌, Bool, cond, List, ◌∷◌, drop, length, Some, get_or, sym, ap, ◌∙◌, drop-cons, add-one}
use Rattle.std.specs.List.{position_from}

-- the search from a place on, where the numbers begin with another one
pub step_number : {A : Type 0} (t : A → Bool) (xs : List A) (i n : ℕ) (a : A) → i < length xs → a ≡ get_or xs i a
    → position_from t n (drop i xs) ≡ cond (t a) (Some n) (position_from t (n + 1) (drop (i + 1) xs))
step_number t xs i n a within is =
    let splits : drop i xs ≡ get_or xs i a ∷ drop (i + 1) xs = rw add-one (drop-cons xs i a within) in
    ap (position_from t n) splits ∙ ap (λ x. cond (t x) (Some n) (position_from t (n + 1) (drop (i + 1) xs))) (sym is)
