-- One more account is opened, or stands twice.
use Rattle.std.proofs.Common.{◌≡◌, ℕ, ◌+◌, ◌≤◌, Bool, true, false, ◌||◌, cond, is_some, List, [], ◌∷◌, ◌++◌, map, take, get_or, Option, Some, None, refl, sym, ap, subst, ◌∙◌, arith, pos}
use Rattle.std.specs.Prelude.{option_map, slice_get}
use Rattle.std.specs.List.{list_any}
use Rattle.std.specs.Str.{bytes_eq}
use Rattle.std.proofs.lemmas.Int.{ints}
use Rattle.std.proofs.lemmas.List.{map-append, take_more}
use Rattle.std.proofs.lemmas.Option.{get_or_from_slice_get, slice_get_within}
use borrow.Author.Count.{below_more}
use Rattle.emv_dict.specs.Settings.{most_amount}
use Rattle.host_ledger.specs.declared.accounts.Account.{Account}
use Rattle.host_ledger.specs.Account.{account_at, with_account, with_opening_balance, IsBalanced, AreBalanced}
use Rattle.host_ledger.specs.Accounts.{opening_balance_of, IsRepeat, AreDistinctBelow}
use Rattle.host_ledger.proofs.Balances.{opening_found, account_again}

mapped : (r : Option Account) → is_some (option_map (λ a. a.opening) r) ≡ is_some r
mapped None = refl
mapped (Some a) = refl

-- whether an account before this place has the account number
before : (items : List (List ℕ × ℕ)) (place : ℕ) (pan : List ℕ) (accounts : List (List ℕ × Account)) → map with_opening_balance accounts ≡ take place items
    → is_some (opening_balance_of pan (take place items)) ≡ is_some (account_at pan accounts)
before items place pan accounts seen = ap (λ l. is_some (opening_balance_of pan l)) (sym seen) ∙ ap is_some (opening_found pan accounts) ∙ mapped (account_at pan accounts)

-- an account number is looked for as its opening balance is
pub any_opening : (pan : List ℕ) (accounts : List (List ℕ × ℕ)) → list_any (λ account. bytes_eq pan account.0) accounts ≡ is_some (opening_balance_of pan accounts)
any_opening pan [] = refl
any_opening pan (account ∷ accounts) =
    elim (bytes_eq pan account.0) as (λ b. b || list_any (λ (other : List ℕ × ℕ). bytes_eq pan other.0) accounts ≡ is_some (cond b (Some account.1) (opening_balance_of pan accounts))) [
      | true ↦ refl
      | false ↦ any_opening pan accounts
    ]

pub repeats : (items : List (List ℕ × ℕ)) (place : ℕ) (item : List ℕ × ℕ) → slice_get items place ≡ Some item
    → list_any (λ account. bytes_eq item.0 account.0) (take place items) ≡ true → IsRepeat items place
repeats items place item there found = record { account = item; there = there; earlier = sym (any_opening item.0 (take place items)) ∙ found }

-- no account before this one has its account number, so it is no repeat
pub passed : (items : List (List ℕ × ℕ)) (place : ℕ) (item : List ℕ × ℕ) → slice_get items place ≡ Some item
    → list_any (λ account. bytes_eq item.0 account.0) (take place items) ≡ false → AreDistinctBelow items place → AreDistinctBelow items (place + 1)
passed items place item there none below = below_more (λ k. IsRepeat items k → ⊥) place below new
  where
    new : IsRepeat items place → ⊥
    new repeat =
        let one : repeat.account ≡ item = cc (repeat.there, there) in
        let some : is_some (opening_balance_of item.0 (take place items)) ≡ true = ap (λ (account : List ℕ × ℕ). is_some (opening_balance_of account.0 (take place items))) (sym one) ∙ repeat.earlier in
        let lacking : is_some (opening_balance_of item.0 (take place items)) ≡ false = sym (any_opening item.0 (take place items)) ∙ none in
        absurd cc

pub is_repeat : (items : List (List ℕ × ℕ)) (place : ℕ) (item : List ℕ × ℕ) (accounts : List (List ℕ × Account)) → map with_opening_balance accounts ≡ take place items
    → slice_get items place ≡ Some item → is_some (account_at item.0 accounts) ≡ true → IsRepeat items place
is_repeat items place item accounts seen there found = record { account = item; there = there; earlier = before items place item.0 accounts seen ∙ found }

no_repeat : (items : List (List ℕ × ℕ)) (place : ℕ) (item : List ℕ × ℕ) (accounts : List (List ℕ × Account)) → map with_opening_balance accounts ≡ take place items
    → slice_get items place ≡ Some item → account_at item.0 accounts ≡ None → IsRepeat items place → ⊥
no_repeat items place item accounts seen there new repeat =
    let one : repeat.account ≡ item = cc (repeat.there, there) in
    let none : is_some (opening_balance_of item.0 (take place items)) ≡ false = before items place item.0 accounts seen ∙ ap is_some new in
    let some : is_some (opening_balance_of item.0 (take place items)) ≡ true = ap (λ (account : List ℕ × ℕ). is_some (opening_balance_of account.0 (take place items))) (sym one) ∙ repeat.earlier in
    absurd cc

pub distinct_more : (items : List (List ℕ × ℕ)) (place : ℕ) (item : List ℕ × ℕ) (accounts : List (List ℕ × Account)) → map with_opening_balance accounts ≡ take place items
    → slice_get items place ≡ Some item → account_at item.0 accounts ≡ None → AreDistinctBelow items place → AreDistinctBelow items (place + 1)
distinct_more items place item accounts seen there new below = below_more (λ k. IsRepeat items k → ⊥) place below (no_repeat items place item accounts seen there new)

added : (pan : List ℕ) (a : Account) (es : List (List ℕ × Account)) → account_at pan es ≡ None → with_account pan a es ≡ es ++ (pan, a) ∷ []
added pan a [] new = refl
added pan a (e ∷ es) new = by (λ h. added pan a es h) (bytes_eq pan e.0) new
  where
    by : (account_at pan es ≡ None → with_account pan a es ≡ es ++ (pan, a) ∷ []) → (b : Bool) → cond b (Some e.1) (account_at pan es) ≡ None
        → cond b ((e.0, a) ∷ es) (e ∷ with_account pan a es) ≡ e ∷ (es ++ (pan, a) ∷ [])
    by behind true h = absurd cc
    by behind false h = ap (λ l. e ∷ l) (behind h)

pub seen_more : (items : List (List ℕ × ℕ)) (place : ℕ) (item : List ℕ × ℕ) (accounts : List (List ℕ × Account)) (a : Account) → map with_opening_balance accounts ≡ take place items
    → slice_get items place ≡ Some item → account_at item.0 accounts ≡ None → a.opening ≡ item.1 → map with_opening_balance (with_account item.0 a accounts) ≡ take (place + 1) items
seen_more items place item accounts a seen there new same =
    let last : get_or items place item ≡ item = get_or_from_slice_get items place item item there in
    ap (map with_opening_balance) (added item.0 a accounts new) ∙ map-append with_opening_balance accounts ((item.0, a) ∷ [])
    ∙ ap (λ l. l ++ (item.0, a.opening) ∷ []) seen ∙ ap (λ n. take place items ++ (item.0, n) ∷ []) same
    ∙ ap (λ i. take place items ++ i ∷ []) (sym last) ∙ sym (take_more items place item (slice_get_within items place item there))

pub balanced_more : (pan : List ℕ) (account : Account) (accounts : List (List ℕ × Account)) → AreBalanced accounts [] → account.opening ≤ most_amount → account.balance ≡ pos account.opening
    → AreBalanced (with_account pan account accounts) []
balanced_more pan account accounts old small full = record { each = λ p a h. by p a (bytes_eq p pan) (sym (account_again p pan account accounts) ∙ h); amounts = old.amounts }
  where
    new : (p : List ℕ) → IsBalanced [] p account
    new p = record { small = small; balance = omega (arith, ints, full) }

    by : (p : List ℕ) (a : Account) (b : Bool) → cond b (Some account) (account_at p accounts) ≡ Some a → IsBalanced [] p a
    by p a true h = let one : account ≡ a = cc in subst (IsBalanced [] p) one (new p)
    by p a false h = old.each p a h

pub none_of : (r : Option Account) → is_some r ≡ false → r ≡ None
none_of None h = refl
none_of (Some a) h = absurd cc
