-- The accounts as the ledger keeps them: each one's balance beside what it opened with.
use Rattle.std.specs.Prelude.{◌≡◌, ℕ, pos, ◌-ℤ◌, ◌≤◌, if◌then◌else◌, List, [], ◌∷◌, Option, Some, None}
use Rattle.std.specs.List.{All}
use Rattle.std.specs.Str.{bytes_eq}
use Rattle.emv_dict.specs.Settings.{most_amount}
use Rattle.host_ledger.specs.declared.accounts.Account.{Account}
use Rattle.host_ledger.specs.declared.entry.Entry.{Entry}
use Rattle.host_ledger.specs.Entries.{taken_from}

-- the account of an account number
abbrev pub account_at : List ℕ → List (List ℕ × Account) → Option Account
account_at pan [] = None
account_at pan (kept ∷ accounts) = (if bytes_eq pan kept.0 then Some kept.1 else account_at pan accounts)

-- the accounts with this one in place of its account number's, or behind the others where it is new
abbrev pub with_account : List ℕ → Account → List (List ℕ × Account) → List (List ℕ × Account)
with_account pan account [] = (pan, account) ∷ []
with_account pan account (kept ∷ accounts) =
    if bytes_eq pan kept.0 then (kept.0, account) ∷ accounts else kept ∷ with_account pan account accounts

-- the account number and its opening balance
abbrev pub with_opening_balance : List ℕ × Account → List ℕ × ℕ
with_opening_balance kept = (kept.0, kept.1.opening)

-- the balance of an account is what these entries of its account number leave
pub record IsBalanced (entries : List Entry) (pan : List ℕ) (account : Account) : Type 0 where
  pub small : account.opening ≤ most_amount
  pub balance : account.balance ≡ pos account.opening -ℤ pos (taken_from pan entries)

-- each account's balance is what the entries leave
pub record AreBalanced (accounts : List (List ℕ × Account)) (entries : List Entry) : Type 0 where
  pub each : (pan : List ℕ) (account : Account) → account_at pan accounts ≡ Some account → IsBalanced entries pan account
  pub amounts : All (λ entry. entry.amount ≤ most_amount) entries
