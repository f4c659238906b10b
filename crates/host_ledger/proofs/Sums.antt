-- What entries take in all, after one of them is kept.
use Rattle.std.proofs.Common.{◌≡◌, ℕ, ◌+◌, ◌*◌, ◌≤◌, Bool, true, false, cond, List, [], ◌∷◌, length, Option, Some, None, refl, sym, ap, ◌∙◌, arith}
use Rattle.std.specs.Prelude.{◌≢◌, filter, sum_by}
use Rattle.std.specs.List.{AllByRecursion}
use Rattle.std.specs.Str.{bytes_eq}
use Rattle.std.proofs.lemmas.Bool.{false_from_ne_true}
use Rattle.std.proofs.lemmas.List.Sums.{sum_by-cons}
use Rattle.emv_dict.specs.Settings.{most_amount}
use Rattle.host_ledger.specs.declared.key.Key.{Key}
use Rattle.host_ledger.specs.declared.entry.Entry.{Entry}
use Rattle.host_ledger.specs.declared.entry.EntryState.{EntryState}
use Rattle.host_ledger.specs.declared.entry.EntryState.TheVariants.{Held, Booked, Released}
use Rattle.host_ledger.specs.Entries.{entry_at, with_entry, amount_taken, taken_at, taken_from}
use Rattle.host_ledger.specs.Key.{same_key}
use Rattle.host_ledger.proofs.Keys.{same, own_key, same_pan, own_pan}

-- what an entry takes from this account number
weight : List ℕ → Entry → ℕ
weight pan e = cond (bytes_eq pan e.key.pan) (amount_taken e.state e.amount) 0

weight_at : List ℕ → Option Entry → ℕ
weight_at pan None = 0
weight_at pan (Some e) = weight pan e

sum_first : (pan : List ℕ) (e : Entry) (es : List Entry) → taken_from pan (e ∷ es) ≡ weight pan e + taken_from pan es
unfolding weight
sum_first pan e es =
    let f : Entry → ℕ = λ e. amount_taken e.state e.amount in
    let rest = filter (λ e. bytes_eq pan e.key.pan) es in
    elim (bytes_eq pan e.key.pan) as (λ b. sum_by f (cond b (e ∷ rest) rest) ≡ cond b (f e) 0 + sum_by f rest) [ true ↦ sum_by-cons f e rest | false ↦ omega arith ]

sums : (pan : List ℕ) (kept : Entry) (es : List Entry) → taken_from pan (with_entry kept es) + weight_at pan (entry_at kept.key es) ≡ taken_from pan es + weight pan kept
unfolding weight_at
sums pan kept [] = omega (arith, sum_first pan kept [])
sums pan kept (e ∷ es) =
    elim (same_key kept.key e.key) as (λ b. taken_from pan (cond b (kept ∷ es) (e ∷ with_entry kept es)) + weight_at pan (cond b (Some e) (entry_at kept.key es)) ≡ taken_from pan (e ∷ es) + weight pan kept) [
      | true ↦ omega (arith, sum_first pan kept es, sum_first pan e es)
      | false ↦ omega (arith, sum_first pan e (with_entry kept es), sum_first pan e es, sums pan kept es)
    ]

-- an entry that is found has the key that was looked for
pub found_key : (key : Key) (es : List Entry) (e : Entry) → entry_at key es ≡ Some e → e.key ≡ key
found_key key [] e h = absurd cc
found_key key (first ∷ es) e h = by (found_key key es e) (same_key key first.key) refl h
  where
    by : (entry_at key es ≡ Some e → e.key ≡ key) → (b : Bool) → same_key key first.key ≡ b → cond b (Some first) (entry_at key es) ≡ Some e → e.key ≡ key
    by others true is h = let one : first ≡ e = cc in ap (λ x. x.key) (sym one) ∙ sym (same key first.key is)
    by others false is h = others h

own_weight : (kept : Entry) → weight kept.key.pan kept ≡ amount_taken kept.state kept.amount
unfolding weight
own_weight kept = rw (own_pan kept.key.pan) refl

own_weight_at : (key : Key) (r : Option Entry) → ((e : Entry) → r ≡ Some e → e.key ≡ key) → weight_at key.pan r ≡ taken_at r
unfolding weight_at
own_weight_at key None is = refl
own_weight_at key (Some e) is = ap (λ (k : Key). weight k.pan e) (sym (is e refl)) ∙ own_weight e

other_weight : (pan : List ℕ) (kept : Entry) → pan ≢ kept.key.pan → weight pan kept ≡ 0
unfolding weight
other_weight pan kept other = rw (false_from_ne_true (bytes_eq pan kept.key.pan) (λ h. other (same_pan pan kept.key.pan h))) refl

other_weight_at : (pan : List ℕ) (key : Key) (r : Option Entry) → ((e : Entry) → r ≡ Some e → e.key ≡ key) → pan ≢ key.pan → weight_at pan r ≡ 0
unfolding weight_at
other_weight_at pan key None is other = refl
other_weight_at pan key (Some e) is other = other_weight pan e (λ h. other (h ∙ ap (λ (k : Key). k.pan) (is e refl)))

pub own_sum : (kept : Entry) (es : List Entry) → taken_from kept.key.pan (with_entry kept es) + taken_at (entry_at kept.key es) ≡ taken_from kept.key.pan es + amount_taken kept.state kept.amount
own_sum kept es = omega (arith, sums kept.key.pan kept es, own_weight kept, own_weight_at kept.key (entry_at kept.key es) (found_key kept.key es))

pub other_sum : (kept : Entry) (es : List Entry) (pan : List ℕ) → pan ≢ kept.key.pan → taken_from pan (with_entry kept es) ≡ taken_from pan es
other_sum kept es pan other = omega (arith, sums pan kept es, other_weight pan kept other, other_weight_at pan kept.key (entry_at kept.key es) (found_key kept.key es) other)

pub taken_small : (state : EntryState) (amount : ℕ) → amount_taken state amount ≤ amount
taken_small Held amount = omega arith
taken_small Booked amount = omega arith
taken_small Released amount = omega arith

weight_small : (pan : List ℕ) (e : Entry) → weight pan e ≤ e.amount
unfolding weight
weight_small pan e = elim (bytes_eq pan e.key.pan) as (λ b. cond b (amount_taken e.state e.amount) 0 ≤ e.amount) [ true ↦ taken_small e.state e.amount | false ↦ omega arith ]

-- so many entries of 12 digits
pub sum_small : (pan : List ℕ) (es : List Entry) → AllByRecursion (λ e. e.amount ≤ most_amount) es → taken_from pan es ≤ most_amount * length es
sum_small pan [] small = omega arith
sum_small pan (e ∷ es) small = omega (arith, sum_first pan e es, weight_small pan e, small.0, sum_small pan es small.1)

pub found_small : (key : Key) (es : List Entry) → AllByRecursion (λ e. e.amount ≤ most_amount) es → taken_at (entry_at key es) ≤ most_amount
found_small key [] small = omega arith
found_small key (e ∷ es) small =
    elim (same_key key e.key) as (λ b. taken_at (cond b (Some e) (entry_at key es)) ≤ most_amount) [
      | true ↦ omega (arith, taken_small e.state e.amount, small.0)
      | false ↦ found_small key es small.1
    ]

pub all_small : (kept : Entry) (es : List Entry) → kept.amount ≤ most_amount → AllByRecursion (λ e. e.amount ≤ most_amount) es → AllByRecursion (λ e. e.amount ≤ most_amount) (with_entry kept es)
all_small kept [] one small = (one, tt)
all_small kept (e ∷ es) one small =
    elim (same_key kept.key e.key) as (λ b. AllByRecursion (λ e. e.amount ≤ most_amount) (cond b (kept ∷ es) (e ∷ with_entry kept es))) [
      | true ↦ (one, small.1)
      | false ↦ (small.0, all_small kept es one small.1)
    ]

-- the entry that was kept is found, and each other one as before
pub found_again : (kept : Entry) (es : List Entry) → entry_at kept.key (with_entry kept es) ≡ Some kept
found_again kept [] = rw (own_key kept.key) refl
found_again kept (e ∷ es) = by (found_again kept es) (same_key kept.key e.key) refl
  where
    by : entry_at kept.key (with_entry kept es) ≡ Some kept → (b : Bool) → same_key kept.key e.key ≡ b → entry_at kept.key (cond b (kept ∷ es) (e ∷ with_entry kept es)) ≡ Some kept
    by behind true is = rw (own_key kept.key) refl
    by behind false is = rw is behind

pub others_again : (kept : Entry) (es : List Entry) (key : Key) → key ≢ kept.key → entry_at key (with_entry kept es) ≡ entry_at key es
others_again kept [] key other = rw (false_from_ne_true (same_key key kept.key) (λ h. other (same key kept.key h))) refl
others_again kept (e ∷ es) key other = by (others_again kept es key other) (same_key kept.key e.key) refl
  where
    not_kept : same_key key kept.key ≡ false
    not_kept = false_from_ne_true (same_key key kept.key) (λ h. other (same key kept.key h))

    by : entry_at key (with_entry kept es) ≡ entry_at key es → (b : Bool) → same_key kept.key e.key ≡ b → entry_at key (cond b (kept ∷ es) (e ∷ with_entry kept es)) ≡ entry_at key (e ∷ es)
    by behind true is = rw (not_kept, sym (ap (same_key key) (same kept.key e.key is)) ∙ not_kept) refl
    by behind false is = ap (cond (same_key key e.key) (Some e)) behind
