-- Accounts by their places.
use Rattle.std.proofs.Common.{◌≡◌, ℕ, suc, ◌+◌, ◌<◌, ◌≤◌, Bool, true, false, cond, List, [], ◌∷◌, drop, map, length, Option, Some, None, get_or, slice_get, refl, sym, ap, ◌∙◌, arith, drop-cons, add-one, subst}
use Rattle.std.specs.Prelude.{◌-◌, option_map}
use Rattle.std.specs.List.{position_from, AllByRecursion}
use Rattle.std.specs.Str.{bytes_eq}
use Rattle.host_ledger.specs.Accounts.{opening_balance_of}
use Rattle.host_ledger.proofs.Keys.{same_pan}
use Rattle.issuer_host.specs.Account.{AccountData, IsAccount}
use Rattle.issuer_host.specs.Balance.{account_with_pan}
use Rattle.issuer_host.specs.Holds.{account_place, account_in, opening_balance}

-- the search from a place on
pub step_place : (t : AccountData → Bool) (accounts : List AccountData) (i : ℕ) (a : AccountData) → i < length accounts → a ≡ get_or accounts i a
    → position_from t i (drop i accounts) ≡ cond (t a) (Some i) (position_from t (i + 1) (drop (i + 1) accounts))
step_place t accounts i a within is =
    let splits : drop i accounts ≡ get_or accounts i a ∷ drop (i + 1) accounts = rw add-one (drop-cons accounts i a within) in
    ap (position_from t i) splits ∙ ap (λ x. cond (t x) (Some i) (position_from t (i + 1) (drop (i + 1) accounts))) (sym is)

-- the place of the account that is found
pub found_from : (pan : List ℕ) (accounts : List AccountData) (i : ℕ) (r : Option ℕ) → position_from (λ a. bytes_eq pan a.pan) i accounts ≡ r
    → ((p : ℕ) → r ≡ Some p → (i ≤ p) × (slice_get accounts (p - i) ≡ account_with_pan pan accounts)) × (r ≡ None → account_with_pan pan accounts ≡ None)
found_from pan [] i r is = (λ p h. let none : None ≡ Some p = is ∙ h in absurd cc, λ h. refl)
found_from pan (a ∷ accounts) i r is = by (λ s h. found_from pan accounts (i + 1) s h) (bytes_eq pan a.pan) is
  where
    by : ((s : Option ℕ) → position_from (λ a. bytes_eq pan a.pan) (i + 1) accounts ≡ s
        → ((p : ℕ) → s ≡ Some p → (i + 1 ≤ p) × (slice_get accounts (p - (i + 1)) ≡ account_with_pan pan accounts)) × (s ≡ None → account_with_pan pan accounts ≡ None))
        → (b : Bool) → cond b (Some i) (position_from (λ a. bytes_eq pan a.pan) (i + 1) accounts) ≡ r
        → ((p : ℕ) → r ≡ Some p → (i ≤ p) × (slice_get (a ∷ accounts) (p - i) ≡ cond b (Some a) (account_with_pan pan accounts))) × (r ≡ None → cond b (Some a) (account_with_pan pan accounts) ≡ None)
    by behind true e =
        (λ p h. let same : i ≡ p = cc in (omega arith, ap (slice_get (a ∷ accounts)) {y = 0} (omega arith)), λ h. absurd cc)
    by behind false e =
        let rest = behind r e in
        (λ p h. let found = rest.0 p h in (omega (arith, found.0), ap (slice_get (a ∷ accounts)) {y = suc (p - (i + 1))} (omega (arith, found.0)) ∙ found.1), rest.1)

-- the account at the place is that of the account number
pub account_found : (pan : List ℕ) (accounts : List AccountData) → account_in accounts (account_place pan accounts) ≡ account_with_pan pan accounts
account_found pan accounts = by (account_place pan accounts) refl
  where
    by : (r : Option ℕ) → account_place pan accounts ≡ r → account_in accounts r ≡ account_with_pan pan accounts
    by None is = sym ((found_from pan accounts 0 None is).1 refl)
    by (Some p) is = let found = (found_from pan accounts 0 (Some p) is).0 p refl in ap (slice_get accounts) {y = p - 0} (omega arith) ∙ found.1

-- the account of an account number has it
pub has_pan : (pan : List ℕ) (accounts : List AccountData) (a : AccountData) → account_with_pan pan accounts ≡ Some a → a.pan ≡ pan
has_pan pan [] a is = cc
has_pan pan (first ∷ accounts) a is = by (has_pan pan accounts a) (bytes_eq pan first.pan) refl is
  where
    by : (account_with_pan pan accounts ≡ Some a → a.pan ≡ pan) → (b : Bool) → bytes_eq pan first.pan ≡ b → cond b (Some first) (account_with_pan pan accounts) ≡ Some a → a.pan ≡ pan
    by behind true b h = let one : first ≡ a = cc in ap (λ (d : AccountData). d.pan) (sym one) ∙ sym (same_pan pan first.pan b)
    by behind false b h = behind h

-- an account of these is valid where all are
pub valid_found : (pan : List ℕ) (accounts : List AccountData) (a : AccountData) → AllByRecursion IsAccount accounts → account_with_pan pan accounts ≡ Some a → IsAccount a
valid_found pan [] a all is = cc
valid_found pan (first ∷ accounts) a all is = by (valid_found pan accounts a all.1) (bytes_eq pan first.pan) is
  where
    by : (account_with_pan pan accounts ≡ Some a → IsAccount a) → (b : Bool) → cond b (Some first) (account_with_pan pan accounts) ≡ Some a → IsAccount a
    by behind true h = let one : first ≡ a = cc in subst IsAccount one all.0
    by behind false h = behind h

-- the opening balance of an account number
pub opening_found : (pan : List ℕ) (accounts : List AccountData) → opening_balance_of pan (map opening_balance accounts) ≡ option_map (λ a. a.balance) (account_with_pan pan accounts)
opening_found pan [] = refl
opening_found pan (a ∷ accounts) =
    elim (bytes_eq pan a.pan) as (λ b. cond b (Some a.balance) (opening_balance_of pan (map opening_balance accounts)) ≡ option_map (λ d. d.balance) (cond b (Some a) (account_with_pan pan accounts))) [
      | true ↦ refl
      | false ↦ opening_found pan accounts
    ]

within_from : (pan : List ℕ) (rest : List AccountData) (i p : ℕ) → position_from (λ a. bytes_eq pan a.pan) i rest ≡ Some p → p < i + length rest
within_from pan [] i p e = cc
within_from pan (a ∷ rest) i p e = by (λ h. within_from pan rest (i + 1) p h) (bytes_eq pan a.pan) e
  where
    by : (position_from (λ a. bytes_eq pan a.pan) (i + 1) rest ≡ Some p → p < i + 1 + length rest) → (b : Bool) → cond b (Some i) (position_from (λ a. bytes_eq pan a.pan) (i + 1) rest) ≡ Some p → p < i + length (a ∷ rest)
    by behind true h = let one : i ≡ p = cc in omega arith
    by behind false h = let more = behind h in omega arith

-- the place is among the accounts
pub place_within : (pan : List ℕ) (accounts : List AccountData) (place : ℕ) → account_place pan accounts ≡ Some place → place < length accounts
place_within pan accounts place at = let within = within_from pan accounts 0 place at in omega arith
