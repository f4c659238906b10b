-- Sums over the kept messages of an account number.
use Rattle.std.proofs.Common.{◌≡◌, ℕ, ◌+◌, Bool, true, false, cond, List, [], ◌∷◌, ◌++◌, Option, Some, None, refl, sym, ap, ◌∙◌, arith}
use Rattle.std.specs.Prelude.{◌≢◌, filter, sum_by}
use Rattle.std.specs.Str.{bytes_eq}
use Rattle.std.proofs.lemmas.Bool.{false_from_ne_true}
use Rattle.std.proofs.lemmas.List.Sums.{sum_by-cons}
use Rattle.host_ledger.specs.declared.key.Key.{Key}
use Rattle.host_ledger.specs.Key.{same_key}
use Rattle.host_ledger.proofs.Keys.{same, own_key, same_pan, own_pan}
use Rattle.issuer_host.specs.Balance.{of_pan}
use Rattle.issuer_host.specs.Books.{KeptCall, kept_at}
use Rattle.issuer_host.specs.Records.{AreOnce}

-- what a message adds to the sum of this account number
abbrev pub weight : (KeptCall → ℕ) → List ℕ → KeptCall → ℕ
weight f pan kept = cond (bytes_eq pan kept.key.pan) (f kept) 0

abbrev pub total : (KeptCall → ℕ) → List ℕ → List KeptCall → ℕ
total f pan [] = 0
total f pan (kept ∷ others) = weight f pan kept + total f pan others

pub total_is : (f : KeptCall → ℕ) (pan : List ℕ) (messages : List KeptCall) → sum_by f (of_pan pan messages) ≡ total f pan messages
total_is f pan [] = refl
total_is f pan (kept ∷ others) =
    let rest = filter (λ k. bytes_eq pan k.key.pan) others in
    let again = total_is f pan others in
    elim (bytes_eq pan kept.key.pan) as (λ b. sum_by f (cond b (kept ∷ rest) rest) ≡ cond b (f kept) 0 + total f pan others) [
      | true ↦ sum_by-cons f kept rest ∙ ap (λ n. f kept + n) again
      | false ↦ again ∙ omega arith
    ]

pub total_last : (f : KeptCall → ℕ) (pan : List ℕ) (messages : List KeptCall) (new : KeptCall) → total f pan (messages ++ new ∷ []) ≡ total f pan messages + weight f pan new
total_last f pan [] new = omega arith
total_last f pan (kept ∷ others) new = omega (arith, total_last f pan others new)

weight_same : (f g : KeptCall → ℕ) (pan : List ℕ) (kept : KeptCall) → f kept ≡ g kept → weight f pan kept ≡ weight g pan kept
weight_same f g pan kept is = ap (λ n. cond (bytes_eq pan kept.key.pan) n 0) is

pub total_same : (f g : KeptCall → ℕ) (pan : List ℕ) (messages : List KeptCall) → ((kept : KeptCall) → f kept ≡ g kept) → total f pan messages ≡ total g pan messages
total_same f g pan [] is = refl
total_same f g pan (kept ∷ others) is = omega (arith, weight_same f g pan kept (is kept), total_same f g pan others is)

weight_split : (f g h : KeptCall → ℕ) (pan : List ℕ) (kept : KeptCall) → f kept ≡ g kept + h kept → weight f pan kept ≡ weight g pan kept + weight h pan kept
weight_split f g h pan kept is =
    elim (bytes_eq pan kept.key.pan) as (λ b. cond b (f kept) 0 ≡ cond b (g kept) 0 + cond b (h kept) 0) [ true ↦ is | false ↦ omega arith ]

pub total_split : (f g h : KeptCall → ℕ) (pan : List ℕ) (messages : List KeptCall) → ((kept : KeptCall) → f kept ≡ g kept + h kept) → total f pan messages ≡ total g pan messages + total h pan messages
total_split f g h pan [] is = omega arith
total_split f g h pan (kept ∷ others) is = omega (arith, weight_split f g h pan kept (is kept), total_split f g h pan others is)

-- only a transaction's own message counts
abbrev pub own : (KeptCall → ℕ) → Key → KeptCall → ℕ
own f key kept = cond (same_key key kept.key) (f kept) 0

abbrev pub of_found : (KeptCall → ℕ) → Option KeptCall → ℕ
of_found f None = 0
of_found f (Some kept) = f kept

own_none : (f : KeptCall → ℕ) (key : Key) (pan : List ℕ) (messages : List KeptCall) → kept_at key messages ≡ None → total (own f key) pan messages ≡ 0
own_none f key pan [] none = refl
own_none f key pan (kept ∷ others) none = by (own_none f key pan others) (same_key key kept.key) none
  where
    by : (kept_at key others ≡ None → total (own f key) pan others ≡ 0) → (b : Bool) → cond b (Some kept) (kept_at key others) ≡ None → cond (bytes_eq pan kept.key.pan) (cond b (f kept) 0) 0 + total (own f key) pan others ≡ 0
    by behind true none = cc
    by behind false none = let rest : total (own f key) pan others ≡ 0 = behind none in
        elim (bytes_eq pan kept.key.pan) as (λ c. cond c 0 0 + total (own f key) pan others ≡ 0) [ true ↦ omega arith | false ↦ omega arith ]

pub total_own : (f : KeptCall → ℕ) (key : Key) (messages : List KeptCall) → AreOnce messages → total (own f key) key.pan messages ≡ of_found f (kept_at key messages)
total_own f key [] once = refl
total_own f key (kept ∷ others) once = by (total_own f key others once.1) (same_key key kept.key) refl
  where
    by : total (own f key) key.pan others ≡ of_found f (kept_at key others) → (b : Bool) → same_key key kept.key ≡ b → cond (bytes_eq key.pan kept.key.pan) (cond b (f kept) 0) 0 + total (own f key) key.pan others ≡ of_found f (cond b (Some kept) (kept_at key others))
    by rest true is =
        let one : key ≡ kept.key = same key kept.key is in
        let pan : bytes_eq key.pan kept.key.pan ≡ true = ap (λ (k : Key). bytes_eq key.pan k.pan) (sym one) ∙ own_pan key.pan in
        let none : kept_at key others ≡ None = ap (λ k. kept_at k others) one ∙ once.0 in
        rw pan (omega (arith, own_none f key key.pan others none))
    by rest false is =
        elim (bytes_eq key.pan kept.key.pan) as (λ c. cond c 0 0 + total (own f key) key.pan others ≡ of_found f (kept_at key others)) [ true ↦ omega arith | false ↦ omega arith ]

pub total_foreign : (f : KeptCall → ℕ) (key : Key) (pan : List ℕ) (messages : List KeptCall) → pan ≢ key.pan → total (own f key) pan messages ≡ 0
total_foreign f key pan [] other = refl
total_foreign f key pan (kept ∷ others) other = by (total_foreign f key pan others other) (bytes_eq pan kept.key.pan) (same_key key kept.key) refl refl
  where
    by : total (own f key) pan others ≡ 0 → (p b : Bool) → bytes_eq pan kept.key.pan ≡ p → same_key key kept.key ≡ b → cond p (cond b (f kept) 0) 0 + total (own f key) pan others ≡ 0
    by rest true true p b =
        let one : key ≡ kept.key = same key kept.key b in
        absurd (other (same_pan pan kept.key.pan p ∙ ap (λ (k : Key). k.pan) (sym one)))
    by rest true false p b = omega arith
    by rest false b p c = omega arith

-- the kept message of a transaction where one more was kept
abbrev pub last_or_found : Key → KeptCall → Option KeptCall → Option KeptCall
last_or_found key new None = cond (same_key key new.key) (Some new) None
last_or_found key new (Some kept) = Some kept

pub kept_last : (key : Key) (messages : List KeptCall) (new : KeptCall) → kept_at key (messages ++ new ∷ []) ≡ last_or_found key new (kept_at key messages)
kept_last key [] new = refl
kept_last key (kept ∷ others) new =
    let again = kept_last key others new in
    elim (same_key key kept.key) as (λ b. cond b (Some kept) (kept_at key (others ++ new ∷ [])) ≡ last_or_found key new (cond b (Some kept) (kept_at key others))) [ true ↦ refl | false ↦ again ]

other_stays : (key : Key) (new : KeptCall) (r : Option KeptCall) → same_key key new.key ≡ false → last_or_found key new r ≡ r
other_stays key new None is = rw is refl
other_stays key new (Some kept) is = refl

pub kept_other : (key : Key) (messages : List KeptCall) (new : KeptCall) → same_key key new.key ≡ false → kept_at key (messages ++ new ∷ []) ≡ kept_at key messages
kept_other key messages new is = kept_last key messages new ∙ other_stays key new (kept_at key messages) is

pub kept_own : (messages : List KeptCall) (new : KeptCall) → kept_at new.key messages ≡ None → kept_at new.key (messages ++ new ∷ []) ≡ Some new
kept_own messages new none = kept_last new.key messages new ∙ ap (last_or_found new.key new) none ∙ rw (own_key new.key) refl

pub not_same : (k l : Key) → k ≢ l → same_key k l ≡ false
not_same k l differ = false_from_ne_true (same_key k l) (λ h. differ (same k l h))

pub other_way : (k l : Key) → same_key k l ≡ false → same_key l k ≡ false
other_way k l is = false_from_ne_true (same_key l k) (λ h. let one : l ≡ k = same l k h in let yes : same_key k l ≡ true = ap (same_key k) one ∙ own_key k in absurd cc)

not_first : (key : Key) (kept : KeptCall) (others : List KeptCall) → kept_at key (kept ∷ others) ≡ None → (same_key key kept.key ≡ false) × (kept_at key others ≡ None)
not_first key kept others none = by (same_key key kept.key) none
  where
    by : (b : Bool) → cond b (Some kept) (kept_at key others) ≡ None → (b ≡ false) × (kept_at key others ≡ None)
    by true h = cc
    by false h = (refl, h)

pub once_last : (messages : List KeptCall) (new : KeptCall) → kept_at new.key messages ≡ None → AreOnce messages → AreOnce (messages ++ new ∷ [])
once_last [] new none once = (refl, tt)
once_last (kept ∷ others) new none once =
    let both = not_first new.key kept others none in
    (kept_other kept.key others new (other_way new.key kept.key both.0) ∙ once.0, once_last others new both.1 once.1)

-- what is found has the key that was looked for
pub found_key : (key : Key) (messages : List KeptCall) (kept : KeptCall) → kept_at key messages ≡ Some kept → kept.key ≡ key
found_key key [] kept is = cc
found_key key (first ∷ others) kept is = by (found_key key others kept) (same_key key first.key) refl is
  where
    by : (kept_at key others ≡ Some kept → kept.key ≡ key) → (b : Bool) → same_key key first.key ≡ b → cond b (Some first) (kept_at key others) ≡ Some kept → kept.key ≡ key
    by behind true b h = let one : first ≡ kept = cc in ap (λ (k : KeptCall). k.key) (sym one) ∙ sym (same key first.key b)
    by behind false b h = behind h
