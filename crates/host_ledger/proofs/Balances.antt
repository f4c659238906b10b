-- The balances that are kept are those that the entries leave.
use Rattle.std.proofs.Common.{◌≡◌, ℕ, ◌≤◌, Bool, true, false, cond, List, [], ◌∷◌, map, Option, Some, None, refl, sym, ap, subst, ◌∙◌, arith, ℤ, pos, ◌+ℤ◌, ◌-ℤ◌}
use Rattle.std.specs.Prelude.{◌≢◌, option_map, Result, Ok, Err, IsErrAnd}
use Rattle.std.specs.Str.{bytes_eq}
use Rattle.std.proofs.lemmas.Int.{ints}
use Rattle.std.proofs.lemmas.List.Elements.{All-from_recursion, recursion_from_All}
use Rattle.emv_dict.specs.Settings.{most_amount}
use Rattle.host_ledger.specs.declared.accounts.Account.{Account}
use Rattle.host_ledger.specs.declared.key.Key.{Key}
use Rattle.host_ledger.specs.declared.entry.Entry.{Entry}
use Rattle.host_ledger.specs.Account.{account_at, with_account, with_opening_balance, IsBalanced, AreBalanced}
use Rattle.host_ledger.specs.Accounts.{LedgerData, opening_balance_of, balance_of, KeepsEntry}
use Rattle.host_ledger.specs.Refusals.{AnswersRefusal}
use Rattle.host_ledger.specs.declared.fault.LedgerFault.{LedgerFault}
use Rattle.host_ledger.specs.declared.fault.LedgerFault.TheVariants.{OutOfMemory}
use Rattle.host_ledger.specs.Entries.{entry_at, with_entry, amount_taken, taken_at, taken_from}
use Rattle.host_ledger.proofs.Keys.{same_pan, own_pan}
use Rattle.host_ledger.proofs.Sums.{own_sum, other_sum, all_small, found_again, others_again}

-- what a contract sees of these accounts and entries
abbrev pub seen : List (List ℕ × Account) → List Entry → LedgerData
seen accounts entries = record { accounts = map with_opening_balance accounts; entries = entries }

pub opening_found : (pan : List ℕ) (es : List (List ℕ × Account)) → opening_balance_of pan (map with_opening_balance es) ≡ option_map (λ a. a.opening) (account_at pan es)
opening_found pan [] = refl
opening_found pan (e ∷ es) =
    elim (bytes_eq pan e.0) as (λ b. cond b (Some e.1.opening) (opening_balance_of pan (map with_opening_balance es)) ≡ option_map (λ a. a.opening) (cond b (Some e.1) (account_at pan es))) [
      | true ↦ refl
      | false ↦ opening_found pan es
    ]

left_of : (pan : List ℕ) (entries : List Entry) (r : Option Account) → ((a : Account) → r ≡ Some a → IsBalanced entries pan a)
    → option_map (λ opening. pos opening -ℤ pos (taken_from pan entries)) (option_map (λ a. a.opening) r) ≡ option_map (λ a. a.balance) r
left_of pan entries None is = refl
left_of pan entries (Some a) is = ap Some (sym (is a refl).balance)

-- the balance by an account that was looked up
pub from_account : (accounts : List (List ℕ × Account)) (entries : List Entry) (ledger : LedgerData) (pan : List ℕ) (r : Option Account)
    → AreBalanced accounts entries → seen accounts entries ≡ ledger → r ≡ account_at pan accounts → balance_of pan ledger ≡ option_map (λ a. a.balance) r
from_account accounts entries ledger pan r balanced is found =
    ap (balance_of pan) (sym is)
    ∙ ap (option_map (λ opening. pos opening -ℤ pos (taken_from pan entries))) (opening_found pan accounts)
    ∙ left_of pan entries (account_at pan accounts) (balanced.each pan) ∙ ap (option_map (λ a. a.balance)) (sym found)

-- the entry that was looked up
pub from_entry : (accounts : List (List ℕ × Account)) (entries : List Entry) (ledger : LedgerData) (key : Key) (r : Option Entry)
    → seen accounts entries ≡ ledger → r ≡ entry_at key entries → entry_at key ledger.entries ≡ r
from_entry accounts entries ledger key r is found = ap (λ (l : LedgerData). entry_at key l.entries) (sym is) ∙ sym found

swapped : {A : Type 0} (u v : Bool) (x y z : A) → (u ≡ true → v ≡ true → ⊥) → cond u x (cond v y z) ≡ cond v y (cond u x z)
swapped true true x y z not = absurd (not refl refl)
swapped true false x y z not = refl
swapped false v x y z not = refl

pub account_again : (p pan : List ℕ) (a : Account) (es : List (List ℕ × Account)) → account_at p (with_account pan a es) ≡ cond (bytes_eq p pan) (Some a) (account_at p es)
account_again p pan a [] = refl
account_again p pan a (e ∷ es) = by (account_again p pan a es) (bytes_eq pan e.0) refl
  where
    by : account_at p (with_account pan a es) ≡ cond (bytes_eq p pan) (Some a) (account_at p es) → (b : Bool) → bytes_eq pan e.0 ≡ b → account_at p (cond b ((e.0, a) ∷ es) (e ∷ with_account pan a es)) ≡ cond (bytes_eq p pan) (Some a) (account_at p (e ∷ es))
    by behind true is =
        rw (ap (bytes_eq p) (same_pan pan e.0 is))
        (elim (bytes_eq p e.0) as (λ b. cond b (Some a) (account_at p es) ≡ cond b (Some a) (cond b (Some e.1) (account_at p es))) [ true ↦ refl | false ↦ refl ])
    by behind false is =
        ap (cond (bytes_eq p e.0) (Some e.1)) behind
        ∙ swapped (bytes_eq p e.0) (bytes_eq p pan) (Some e.1) (Some a) (account_at p es)
        (λ u v. let h : bytes_eq pan e.0 ≡ true = ap (λ x. bytes_eq x e.0) (sym (same_pan p pan v)) ∙ u in absurd cc)

-- another balance leaves what the accounts opened with
pub opened_same : (pan : List ℕ) (a b : Account) (es : List (List ℕ × Account)) → account_at pan es ≡ Some b → a.opening ≡ b.opening → map with_opening_balance (with_account pan a es) ≡ map with_opening_balance es
opened_same pan a b [] h same = absurd cc
opened_same pan a b (e ∷ es) h same = by (λ there. opened_same pan a b es there same) (bytes_eq pan e.0) h
  where
    by : (account_at pan es ≡ Some b → map with_opening_balance (with_account pan a es) ≡ map with_opening_balance es) → (t : Bool) → cond t (Some e.1) (account_at pan es) ≡ Some b → map with_opening_balance (cond t ((e.0, a) ∷ es) (e ∷ with_account pan a es)) ≡ map with_opening_balance (e ∷ es)
    by behind true h = let one : e.1 ≡ b = cc in ap (λ n. (e.0, n) ∷ map with_opening_balance es) (same ∙ ap (λ x. x.opening) (sym one))
    by behind false h = ap (λ l. with_opening_balance e ∷ l) (behind h)

-- the account's balance has moved by what the entry takes in place of the one before
pub balanced_again : (accounts : List (List ℕ × Account)) (entries : List Entry) (account : Account) (kept : Entry) (balance : ℤ)
    → account_at kept.key.pan accounts ≡ Some account → AreBalanced accounts entries → kept.amount ≤ most_amount
    → balance ≡ (account.balance +ℤ pos (taken_at (entry_at kept.key entries))) -ℤ pos (amount_taken kept.state kept.amount)
    → AreBalanced (with_account kept.key.pan (record { opening = account.opening; balance = balance }) accounts) (with_entry kept entries)
balanced_again accounts entries account kept balance known old small is = record { each = each; amounts = All-from_recursion _ _ (all_small kept entries small (recursion_from_All _ _ old.amounts)) }
  where
    own : IsBalanced entries kept.key.pan account
    own = old.each kept.key.pan account known

    made : Account
    made = record { opening = account.opening; balance = balance }

    by : (pan : List ℕ) (a : Account) (b : Bool) → bytes_eq pan kept.key.pan ≡ b → cond b (Some (record { opening = account.opening; balance = balance })) (account_at pan accounts) ≡ Some a → IsBalanced (with_entry kept entries) pan a
    by pan a true t h =
        let left : balance ≡ pos account.opening -ℤ pos (taken_from kept.key.pan (with_entry kept entries)) = omega (arith, ints, is, own.balance, own_sum kept entries) in
        let new : IsBalanced (with_entry kept entries) kept.key.pan (record { opening = account.opening; balance = balance }) = record { small = own.small; balance = left } in
        let one : record { opening = account.opening; balance = balance } ≡ a = cc in
        subst (λ x. IsBalanced (with_entry kept entries) pan x) one (subst (λ p. IsBalanced (with_entry kept entries) p (record { opening = account.opening; balance = balance })) (sym (same_pan pan kept.key.pan t)) new)
    by pan a false t h =
        let before = old.each pan a h in
        let other : pan ≢ kept.key.pan = λ e. let yes : bytes_eq pan kept.key.pan ≡ true = ap (bytes_eq pan) (sym e) ∙ own_pan pan in absurd cc in
        record { small = before.small; balance = before.balance ∙ ap (λ n. pos a.opening -ℤ pos n) (sym (other_sum kept entries pan other)) }

    each : (pan : List ℕ) (a : Account) → account_at pan (with_account kept.key.pan (record { opening = account.opening; balance = balance }) accounts) ≡ Some a → IsBalanced (with_entry kept entries) pan a
    each pan a h = by pan a (bytes_eq pan kept.key.pan) refl (sym (account_again pan kept.key.pan (record { opening = account.opening; balance = balance }) accounts) ∙ h)

keeps_entry : (kept : Entry) (old new : LedgerData) → new.accounts ≡ old.accounts → new.entries ≡ with_entry kept old.entries → KeepsEntry kept old new
keeps_entry kept old new accounts entries = record {
  accounts = accounts;
  entries = entries;
  found = rw entries (found_again kept old.entries);
  others = λ key other. rw entries (others_again kept old.entries key other);
  own_sum = rw entries (own_sum kept old.entries);
  other_sums = λ pan other. rw entries (other_sum kept old.entries pan other);
}

-- the ledger that is left where these accounts opened as before and the entry was kept
pub keeps : (kept : Entry) (accounts after : List (List ℕ × Account)) (entries left : List Entry) (old : LedgerData)
    → seen accounts entries ≡ old → map with_opening_balance after ≡ map with_opening_balance accounts → left ≡ with_entry kept entries → KeepsEntry kept old (seen after left)
keeps kept accounts after entries left old is same more = subst (λ (o : LedgerData). KeepsEntry kept o (seen after left)) is (keeps_entry kept (seen accounts entries) (seen after left) same more)

-- want of memory answers where there is no refusal
pub answers_memory : (r : Result (Unit {0}) LedgerFault) (refusal : Option LedgerFault) → IsErrAnd r (λ e. e ≡ OutOfMemory) → refusal ≡ None → AnswersRefusal r refusal
answers_memory (Ok value) refusal is none = absurd is
answers_memory (Err fault) refusal is none = subst (λ (e : LedgerFault). AnswersRefusal {T = Unit {0}} (Err e) refusal) (sym is) none
