-- Lists that grow at their end, or that change at one place.
-- What stands at a place of them is what stood there before, or what was put there.
use Rattle.std.proofs.Common.{◌≡◌, ◌≢◌, ℕ, zero, suc, ◌⊎◌, ◌+◌, ◌<◌, ◌≤◌, List, [], ◌∷◌, ◌++◌, length, take, drop, replicate, get_or, set, map, slice_get, Some, refl, sym, ap, ◌∙◌, subst, true, false, nat_lt, arith, inl, inr}
use Rattle.std.proofs.lemmas.Bool.{cases_eq}
use Rattle.std.proofs.lemmas.Bool.Decides.{nat_tests}
use Rattle.std.proofs.lemmas.List.{get_or-set_same, get_or-set_other}
use Rattle.std.proofs.lemmas.Option.{same_Some, slice_get-get_or}

-- an element of the longer list stands among the earlier ones, or is the new one
pub push_at : {A : Type 0} (xs : List A) (e : A) (k : ℕ) (x : A) → slice_get (xs ++ e ∷ []) k ≡ Some x
    → ((slice_get xs k ≡ Some x) × (take k (xs ++ e ∷ []) ≡ take k xs)) ⊎ ((e ≡ x) × (take k (xs ++ e ∷ []) ≡ xs))
push_at [] e zero x here = inr (cc, refl)
push_at [] e (suc k) x here = cc
push_at (y ∷ ys) e zero x here = inl (here, refl)
push_at {A} (y ∷ ys) e (suc k) x here =
    elim (push_at ys e k x here) [
      | inl before ↦ inl (before.0, ap (λ (zs : List A). y ∷ zs) before.1)
      | inr last ↦ inr (last.0, ap (λ (zs : List A). y ∷ zs) last.1)
    ]

-- an element of two lists stands in one of them
pub append_at : {A : Type 0} (xs ys : List A) (k : ℕ) (x : A) → slice_get (xs ++ ys) k ≡ Some x
    → (slice_get xs k ≡ Some x) ⊎ ((m : ℕ) × (slice_get ys m ≡ Some x))
append_at [] ys k x here = inr (k, here)
append_at (a ∷ xs) ys zero x here = inl here
append_at (a ∷ xs) ys (suc k) x here = append_at xs ys k x here

-- and at which place
pub append_place : {A : Type 0} (xs ys : List A) (k : ℕ) (x : A) → slice_get (xs ++ ys) k ≡ Some x
    → ((k < length xs) × (slice_get xs k ≡ Some x)) ⊎ ((m : ℕ) × (k ≡ length xs + m) × (slice_get ys m ≡ Some x))
append_place [] ys k x here = inr (k, omega arith, here)
append_place (a ∷ xs) ys zero x here = inl (omega arith, here)
append_place (a ∷ xs) ys (suc k) x here =
    elim (append_place xs ys k x here) [
      | inl first ↦ inl (omega (arith, first.0), first.1)
      | inr second ↦ inr (second.0, omega (arith, second.1), second.2)
    ]

-- what holds of the new element and of each old one holds of each
pub at_set : {A : Type 0} (P : ℕ → A → Type 0) (xs : List A) (i : ℕ) (a d : A) → P i a → ((j : ℕ) → P j (get_or xs j d))
    → (j : ℕ) → P j (get_or (set xs i a) j d)
at_set P [] i a d new old j = old j
at_set P (x ∷ xs) zero a d new old zero = new
at_set P (x ∷ xs) zero a d new old (suc j) = old (suc j)
at_set P (x ∷ xs) (suc i) a d new old zero = old zero
at_set {A} P (x ∷ xs) (suc i) a d new old (suc j) = at_set (λ (k : ℕ) (b : A). P (suc k) b) xs i a d new (λ k. old (suc k)) j

-- each element is the default one
pub get_or-map_const : {A B : Type 0} (xs : List A) (i : ℕ) (d : B) → get_or (map (λ x. d) xs) i d ≡ d
get_or-map_const [] i d = refl
get_or-map_const (x ∷ xs) zero d = refl
get_or-map_const (x ∷ xs) (suc i) d = get_or-map_const xs i d

pub some_at : {A : Type 0} (xs : List A) (i : ℕ) → i < length xs → (x : A) × (slice_get xs i ≡ Some x)
some_at [] i within = absurd (omega arith)
some_at (x ∷ xs) zero within = (x, refl)
some_at (x ∷ xs) (suc i) within = some_at xs i (omega arith)

pub set_other : {A : Type 0} (xs : List A) (i j : ℕ) (a : A) → j ≢ i → slice_get (set xs i a) j ≡ slice_get xs j
set_other [] i j a other = refl
set_other (x ∷ xs) zero zero a other = absurd (other refl)
set_other (x ∷ xs) zero (suc j) a other = refl
set_other (x ∷ xs) (suc i) zero a other = refl
set_other (x ∷ xs) (suc i) (suc j) a other = set_other xs i j a (λ same. other (ap (λ n. suc n) same))

pub set_here : {A : Type 0} (xs : List A) (i : ℕ) (a x : A) → slice_get (set xs i a) i ≡ Some x → a ≡ x
set_here [] i a x here = cc
set_here (y ∷ ys) zero a x here = same_Some a x here
set_here (y ∷ ys) (suc i) a x here = set_here ys i a x here

-- an element of the first of two lists, and one of the second
pub append_first : {A : Type 0} (xs ys : List A) (k : ℕ) (x : A) → slice_get xs k ≡ Some x → slice_get (xs ++ ys) k ≡ Some x
append_first [] ys k x here = cc
append_first (a ∷ xs) ys zero x here = here
append_first (a ∷ xs) ys (suc k) x here = append_first xs ys k x here

pub append_second : {A : Type 0} (xs ys : List A) (k : ℕ) → slice_get (xs ++ ys) (length xs + k) ≡ slice_get ys k
append_second [] ys k = let e : 0 + k ≡ k = omega arith in ap (λ n. slice_get ys n) e
append_second (x ∷ xs) ys k =
    let e : length (x ∷ xs) + k ≡ suc (length xs + k) = omega arith in
    ap (λ n. slice_get (x ∷ (xs ++ ys)) n) e ∙ append_second xs ys k

-- the rest of a list from one of its elements on
pub drop_at : {A : Type 0} (xs : List A) (k : ℕ) (x : A) → slice_get xs k ≡ Some x → drop k xs ≡ x ∷ drop (k + 1) xs
drop_at {A} xs k x here = from xs k here ∙ ap (λ n. x ∷ drop n xs) (let e : suc k ≡ k + 1 = omega arith in e)
  where
    from : (ys : List A) (n : ℕ) → slice_get ys n ≡ Some x → drop n ys ≡ x ∷ drop (suc n) ys
    from [] n at = cc
    from (y ∷ ys) zero at = ap (λ z. z ∷ ys) (same_Some y x at)
    from (y ∷ ys) (suc n) at = from ys n at

pub drop_past : {A : Type 0} (xs : List A) (k : ℕ) → length xs ≤ k → drop k xs ≡ []
drop_past [] zero past = refl
drop_past [] (suc k) past = refl
drop_past (x ∷ xs) zero past = absurd (omega arith)
drop_past (x ∷ xs) (suc k) past = drop_past xs k (omega arith)

-- what `get` and an index find
pub found_at : {A : Type 0} (xs : List A) (k : ℕ) (x : A) → k < length xs → x ≡ get_or xs k x → slice_get xs k ≡ Some x
found_at {A} xs k x within is = slice_get-get_or xs k x within ∙ ap (λ (y : A). Some y) (sym is)

pub is_within : (k n : ℕ) → true ≡ nat_lt k n → k < n
is_within k n e = grind (arith, nat_tests)

pub is_past : (k n : ℕ) → false ≡ nat_lt k n → n ≤ k
is_past k n e = grind (arith, nat_tests)

pub found_first : {A : Type 0} (xs ys : List A) (k : ℕ) (x : A) → k < length xs → slice_get (xs ++ ys) k ≡ Some x → slice_get xs k ≡ Some x
found_first [] ys k x within here = absurd (omega arith)
found_first (a ∷ xs) ys zero x within here = here
found_first (a ∷ xs) ys (suc k) x within here = found_first xs ys k x (omega arith) here

-- where a list changes at one place
pub set_one : {A : Type 0} (P : ℕ → A → Type 0) (xs : List A) (l : ℕ) (a : A) → P l a → ((j : ℕ) (x : A) → j ≢ l → slice_get xs j ≡ Some x → P j x)
    → (j : ℕ) (x : A) → slice_get (set xs l a) j ≡ Some x → P j x
set_one {A} P xs l a new old j x there =
    elim (cases_eq j l) [
      | inl same ↦
          (let is : a ≡ x = set_here xs l a x (ap (λ i. slice_get (set xs l a) i) (sym same) ∙ there) in
          subst (λ (i : ℕ). P i x) (sym same) (subst (λ (y : A). P l y) is new))
      | inr differs ↦ old j x differs (sym (set_other xs l j a differs) ∙ there)
    ]

-- and where two lists change at the same place
pub set_both : {A B : Type 0} (P : ℕ → A → B → Type 0) (xs : List A) (ys : List B) (l : ℕ) (a : A) (b d : B) → l < length ys → P l a b
    → ((j : ℕ) (x : A) → slice_get xs j ≡ Some x → P j x (get_or ys j d))
    → (j : ℕ) (x : A) → slice_get (set xs l a) j ≡ Some x → P j x (get_or (set ys l b) j d)
set_both {A} {B} P xs ys l a b d inside new old =
    set_one (λ (j : ℕ) (x : A). P j x (get_or (set ys l b) j d)) xs l a (subst (λ (y : B). P l a y) (sym (get_or-set_same ys l b d inside)) new)
    (λ j x differs there. subst (λ (y : B). P j x y) (sym (get_or-set_other ys l j b d differs)) (old j x there))

-- one more of the same
pub replicate_push : {A : Type 0} (n : ℕ) (x : A) → replicate n x ++ x ∷ [] ≡ replicate (suc n) x
replicate_push zero x = refl
replicate_push {A} (suc n) x = ap (λ (xs : List A). x ∷ xs) (replicate_push n x)

pub map_replicate : {A B : Type 0} (f : A → B) (n : ℕ) (x : A) → map f (replicate n x) ≡ replicate n (f x)
map_replicate f zero x = refl
map_replicate {A} {B} f (suc n) x = ap (λ (xs : List B). f x ∷ xs) (map_replicate f n x)
