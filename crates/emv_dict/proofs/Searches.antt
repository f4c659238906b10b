-- A search through what is left of a list, one place further.
use Rattle.std.proofs.Common.{◌≡◌, ℕ, ◌+◌, ◌<◌, ◌≤◌, Bool, true, false, cond, List, [], ◌∷◌, ◌++◌, length, take, drop, get_or, Some, None, sym, ◌∙◌, ap, subst, arith}
use Rattle.std.specs.List.{find}
use Rattle.std.proofs.lemmas.List.{at_drop_more, at_drop_all, take_more, get_or-take, length-take-le}
use Rattle.std.proofs.lemmas.List.Elements.{All-push}
use Rattle.emv_dict.specs.Digits.{AllDecimal}

-- the element here passes
pub find_here : (p : ℕ → Bool) (xs : List ℕ) (i x : ℕ) → i < length xs → x ≡ get_or xs i 0 → p x ≡ true → find p (drop i xs) ≡ Some x
find_here p xs i x within here passes =
    at_drop_more (find p) xs i 0 within
    ∙ ap (λ y. find p (y ∷ drop (i + 1) xs)) (sym here)
    ∙ ap (λ b. cond b (Some x) (find p (drop (i + 1) xs))) passes

-- the element here doesn't
pub find_on : (p : ℕ → Bool) (xs : List ℕ) (i x : ℕ) → i < length xs → x ≡ get_or xs i 0 → p x ≡ false → find p (drop i xs) ≡ find p (drop (i + 1) xs)
find_on p xs i x within here fails =
    at_drop_more (find p) xs i 0 within
    ∙ ap (λ y. find p (y ∷ drop (i + 1) xs)) (sym here)
    ∙ ap (λ b. cond b (Some x) (find p (drop (i + 1) xs))) fails

-- nothing is left
pub find_nothing : (p : ℕ → Bool) (xs : List ℕ) (i : ℕ) → length xs ≤ i → find p (drop i xs) ≡ None
find_nothing p xs i past = at_drop_all (find p) xs i past

-- one element more, with its value
pub take_next : (xs : List ℕ) (i x : ℕ) → i < length xs → x ≡ get_or xs i 0 → take (i + 1) xs ≡ take i xs ++ x ∷ []
take_next xs i x within here = take_more xs i 0 within ∙ ap (λ y. take i xs ++ y ∷ []) (sym here)

-- one decimal digit more
pub decimal_more : (xs : List ℕ) (i x : ℕ) → i < length xs → x ≡ get_or xs i 0 → x ≤ 9 → AllDecimal (take i xs) → AllDecimal (take (i + 1) xs)
decimal_more xs i x within here small before =
    subst (λ (ys : List ℕ). AllDecimal ys) (sym (take_next xs i x within here)) (All-push (λ d. d ≤ 9) (take i xs) x before small)

-- an element of the front is one of the whole
pub taken : (xs : List ℕ) (n i x : ℕ) → i < n → x ≡ get_or xs i 0 → x ≡ get_or (take n xs) i 0
taken xs n i x below here = here ∙ sym (get_or-take n xs i 0 below)

-- an element among decimal digits is one
pub decimal_at : (xs : List ℕ) (n i x : ℕ) → i < n → n ≤ length xs → x ≡ get_or xs i 0 → AllDecimal (take n xs) → x ≤ 9
decimal_at xs n i x below within here decimal =
    let size : length (take n xs) ≡ n = length-take-le n xs within in
    let small : get_or (take n xs) i 0 ≤ 9 = decimal i 0 (omega arith) in
    let same : x ≡ get_or (take n xs) i 0 = taken xs n i x below here in
    omega arith
