-- What a contract sees of a ledger, and the balance of an account.
use Rattle.std.specs.Prelude.{◌≡◌, ◌≢◌, ℕ, ◌+◌, ◌<◌, ℤ, pos, ◌-ℤ◌, if◌then◌else◌, List, [], ◌∷◌, length, take, Option, Some, None, IsSome, option_map, slice_get}
use Rattle.std.specs.Str.{bytes_eq}
use Rattle.host_ledger.specs.declared.entry.Entry.{Entry}
use Rattle.host_ledger.specs.declared.key.Key.{Key}
use Rattle.host_ledger.specs.declared.fault.LedgerFault.{LedgerFault}
use Rattle.host_ledger.specs.declared.fault.LedgerFault.TheVariants.{SamePan, UnknownAccount, AlreadyBooked, NoFunds, OutOfMemory}
use Rattle.host_ledger.specs.Entries.{amount_taken, taken_at, taken_from, entry_at, with_entry}

-- the account numbers with their opening balances, and the entries, each in the order in which they came
pub record LedgerData : Type 0 where
  pub accounts : List (List ℕ × ℕ)
  pub entries : List Entry

-- the opening balance of an account number
abbrev pub opening_balance_of : List ℕ → List (List ℕ × ℕ) → Option ℕ
opening_balance_of pan [] = None
opening_balance_of pan (account ∷ accounts) = (if bytes_eq pan account.0 then Some account.1 else opening_balance_of pan accounts)

-- the opening balance less what the account's held and booked entries take
abbrev pub balance_of : List ℕ → LedgerData → Option ℤ
balance_of pan ledger = option_map (λ opening. pos opening -ℤ pos (taken_from pan ledger.entries)) (opening_balance_of pan ledger.accounts)

-- an account before this one has its account number
pub record IsRepeat (accounts : List (List ℕ × ℕ)) (place : ℕ) : Type 0 where
  pub account : List ℕ × ℕ
  pub there : slice_get accounts place ≡ Some account
  pub earlier : IsSome (opening_balance_of account.0 (take place accounts))

-- no account before this place has the account number of an earlier one
abbrev pub AreDistinctBelow : List (List ℕ × ℕ) → ℕ → Type 0
AreDistinctBelow accounts place = (k : ℕ) → k < place → IsRepeat accounts k → ⊥

-- why no ledger is made of these accounts: the first repeat, or want of memory, which comes only where
-- there is none
abbrev pub RefusesAccounts : List (List ℕ × ℕ) → LedgerFault → Type 0
RefusesAccounts accounts (SamePan place) = IsRepeat accounts place × AreDistinctBelow accounts place
RefusesAccounts accounts UnknownAccount = ⊥
RefusesAccounts accounts (AlreadyBooked entry) = ⊥
RefusesAccounts accounts (NoFunds balance) = ⊥
RefusesAccounts accounts OutOfMemory = AreDistinctBelow accounts (length accounts)

-- the entry is kept, in place of its transaction's one if there was one, and nothing else changes
pub record KeepsEntry (entry : Entry) (old new : LedgerData) : Type 0 where
  pub accounts : new.accounts ≡ old.accounts
  pub entries : new.entries ≡ with_entry entry old.entries
  pub found : entry_at entry.key new.entries ≡ Some entry
  pub others : (key : Key) → key ≢ entry.key → entry_at key new.entries ≡ entry_at key old.entries
  pub own_sum : taken_from entry.key.pan new.entries + taken_at (entry_at entry.key old.entries)
      ≡ taken_from entry.key.pan old.entries + amount_taken entry.state entry.amount
  pub other_sums : (pan : List ℕ) → pan ≢ entry.key.pan → taken_from pan new.entries ≡ taken_from pan old.entries
