-- The kept messages beside the ledger of what they take.
use Rattle.std.specs.Prelude.{◌≡◌, ℕ, ℤ, pos, ◌-ℤ◌, int_lt, Bool, false, not, ◌&&◌, ◌||◌, if◌then◌else◌, List, [], ◌∷◌, Option, Some, None, option_map}
use Rattle.std.specs.Option.{is_some}
use Rattle.host_ledger.specs.Accounts.{opening_balance_of}
use Rattle.host_ledger.specs.Entries.{entry_at, taken_at, taken_from}
use Rattle.host_ledger.specs.declared.entry.Entry.{Entry}
use Rattle.host_ledger.specs.declared.entry.EntryState.{EntryState}
use Rattle.host_ledger.specs.declared.entry.EntryState.TheVariants.{Held, Booked, Released}
use Rattle.host_ledger.specs.declared.key.Key.{Key}
use Rattle.issuer_host.specs.Balance.{is_booked, is_released, taken_in_all}
use Rattle.issuer_host.specs.Books.{KeptCall, Books, kept_at, was_approved}
use Rattle.issuer_host.specs.Code.{is_approved}

-- the account numbers with their opening balances, and the kept messages
pub record RecordsData : Type 0 where
  pub accounts : List (List ℕ × ℕ)
  pub books : Books

-- the opening balance of an account number less what its transactions take
abbrev pub balance_left : RecordsData → List ℕ → Option ℤ
balance_left records pan = option_map (λ opening. pos opening -ℤ pos (taken_in_all pan records.books)) (opening_balance_of pan records.accounts)

-- no presentment and no reversal of the transaction was kept
abbrev pub is_only_requested : Books → Key → Bool
is_only_requested books key = not (is_some (kept_at key books.presentments) || is_some (kept_at key books.reversals))

abbrev pub covers : Option ℤ → ℕ → Bool
covers None amount = false
covers (Some balance) amount = not (int_lt balance (pos amount))

-- an amount can be held for the transaction
abbrev pub is_open : RecordsData → Key → ℕ → Bool
is_open records key amount = is_only_requested records.books key && covers (balance_left records key.pan) amount

-- how far a transaction has come: its presentment was approved, else its reversal, else its request
abbrev pub state_of : Books → Key → Option EntryState
state_of books key =
    if is_booked books key then Some Booked
    else if is_released books key then Some Released
    else if was_approved (kept_at key books.requests) then Some Held
    else None

abbrev pub amount_or_zero : Option KeptCall → ℕ
amount_or_zero None = 0
amount_or_zero (Some kept) = (if is_approved kept.code then kept.amount else 0)

-- the amount of a transaction: its presentment's where that was approved, else its request's where that
-- was approved and its reversal was not, else none
abbrev pub amount_of : Books → Key → ℕ
amount_of books key =
    if is_booked books key then amount_or_zero (kept_at key books.presentments)
    else if is_released books key then 0
    else amount_or_zero (kept_at key books.requests)

-- no two of the messages are of one transaction
abbrev pub AreOnce : List KeptCall → Type 0
AreOnce [] = Unit {0}
AreOnce (kept ∷ others) = (kept_at kept.key others ≡ None) × AreOnce others

-- the ledger's entry of a transaction is in its state and takes its amount
pub record EntryIs (books : Books) (key : Key) (entry : Option Entry) : Type 0 where
  pub state : option_map (λ e. e.state) entry ≡ state_of books key
  pub amount : taken_at entry ≡ amount_of books key

-- the ledger holds, books and releases what the kept messages say
pub record LedgerAgrees (books : Books) (entries : List Entry) : Type 0 where
  pub each : (key : Key) → EntryIs books key (entry_at key entries)
  pub sums : (pan : List ℕ) → taken_from pan entries ≡ taken_in_all pan books
  pub once : AreOnce books.requests
