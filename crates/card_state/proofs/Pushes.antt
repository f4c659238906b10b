-- The words of the totals at a list that is longer by one element at its end.
use Rattle.std.proofs.Common.{◌≡◌, ℕ, ◌+◌, Bool, true, false, ◌||◌, if◌then◌else◌, List, [], ◌∷◌, ◌++◌, Option, Some, None, unwrap_or, refl, ◌∙◌, ap, append-nil, arith}
use Rattle.std.specs.List.{list_any, filter_map, cons_option, sum_by}
use Rattle.std.proofs.lemmas.List.Elements.{filter_map-append}
use Rattle.std.proofs.lemmas.List.Folds.{list_any-append}
use Rattle.std.proofs.lemmas.List.Sums.{sum_by-append}
use Rattle.card_state.specs.Totals.{last_or, last_given, after_last, up_to_last}

last_or-push : {A : Type 0} (other : A) (xs : List A) (x : A) → last_or other (xs ++ x ∷ []) ≡ x
unfolding last_or
last_or-push other [] x = refl
last_or-push other (y ∷ ys) x = last_or-push y ys x

last_given_by : {B : Type 0} (o : Option B) (opening : B) (ys : List B) → last_or opening (ys ++ cons_option o []) ≡ unwrap_or o (last_or opening ys)
last_given_by (Some y) opening ys = last_or-push opening ys y
last_given_by None opening ys = ap (last_or opening) (append-nil ys)

-- the last element gives a value, or those before it do
pub last_given-push : {A B : Type 0} (given : A → Option B) (opening : B) (xs : List A) (x : A)
    → last_given given opening (xs ++ x ∷ []) ≡ unwrap_or (given x) (last_given given opening xs)
last_given-push given opening xs x =
    ap (last_or opening) (filter_map-append given xs (x ∷ [])) ∙ last_given_by (given x) opening (filter_map given xs)

or-false : (b : Bool) → (b || false) ≡ b
or-false true = refl
or-false false = refl

-- any of the list, or the last
pub any-push : {A : Type 0} (p : A → Bool) (xs : List A) (x : A) → list_any p (xs ++ x ∷ []) ≡ (list_any p xs || p x)
any-push p xs x = list_any-append p xs (x ∷ []) ∙ ap (λ b. list_any p xs || b) (or-false (p x))

after_cases : {A : Type 0} (here before last : Bool) (y : A) (ys behind : List A) (x : A)
    → (if here || (before || last) then (if last then [] else behind ++ x ∷ []) else y ∷ (ys ++ x ∷ []))
    ≡ (if last then [] else (if here || before then behind else y ∷ ys) ++ x ∷ [])
after_cases true before last y ys behind x = refl
after_cases false true last y ys behind x = refl
after_cases false false true y ys behind x = refl
after_cases false false false y ys behind x = refl

-- behind the last that passes: nothing where the new element passes, else it comes on top
pub after_last-push : {A : Type 0} (p : A → Bool) (xs : List A) (x : A)
    → after_last p (xs ++ x ∷ []) ≡ (if p x then [] else after_last p xs ++ x ∷ [])
unfolding after_last
after_last-push p [] x = ap (λ b. if b then [] else x ∷ []) (or-false (p x))
after_last-push {A} p (y ∷ ys) x =
    ap (λ b. if p y || b then after_last p (ys ++ x ∷ []) else y ∷ (ys ++ x ∷ [])) (any-push p ys x)
    ∙ ap (λ (zs : List A). if p y || (list_any p ys || p x) then zs else y ∷ (ys ++ x ∷ [])) (after_last-push p ys x)
    ∙ after_cases (p y) (list_any p ys) (p x) y ys (after_last p ys) x

up_to_cases : {A : Type 0} (here before last : Bool) (y : A) (whole front : List A)
    → (if here || (before || last) then y ∷ (if last then whole else front) else [])
    ≡ (if last then y ∷ whole else (if here || before then y ∷ front else []))
up_to_cases true before true y whole front = refl
up_to_cases true before false y whole front = refl
up_to_cases false true true y whole front = refl
up_to_cases false true false y whole front = refl
up_to_cases false false true y whole front = refl
up_to_cases false false false y whole front = refl

-- up to the last that passes: the whole list where the new element passes, else as before
pub up_to_last-push : {A : Type 0} (p : A → Bool) (xs : List A) (x : A)
    → up_to_last p (xs ++ x ∷ []) ≡ (if p x then xs ++ x ∷ [] else up_to_last p xs)
unfolding up_to_last
up_to_last-push p [] x = ap (λ b. if b then x ∷ [] else []) (or-false (p x))
up_to_last-push {A} p (y ∷ ys) x =
    ap (λ b. if p y || b then y ∷ up_to_last p (ys ++ x ∷ []) else []) (any-push p ys x)
    ∙ ap (λ (zs : List A). if p y || (list_any p ys || p x) then y ∷ zs else []) (up_to_last-push p ys x)
    ∙ up_to_cases (p y) (list_any p ys) (p x) y (ys ++ x ∷ []) (up_to_last p ys)

-- a sum with one term more
pub sum_by-push : {A : Type 0} (f : A → ℕ) (xs : List A) (x : A) → sum_by f (xs ++ x ∷ []) ≡ sum_by f xs + f x
sum_by-push f xs x = let more : sum_by f (xs ++ x ∷ []) ≡ sum_by f xs + sum_by f (x ∷ []) = sum_by-append f xs (x ∷ []) in omega arith
