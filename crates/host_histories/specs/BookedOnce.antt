-- No transaction is booked twice, and a balance loses the amounts of its transactions (own).
use Rattle.std.specs.Prelude.{◌≡◌, ℕ, ◌+◌, ◌<◌, pos, ◌-ℤ◌, Bool, true, false, List, [], ◌∷◌, length, take, slice_get, Some, None, option_map, Ok}
use Rattle.emv_dict.specs.Bcd.{number_in}
use Rattle.auth_message.specs.Data.{PresentData}
use Rattle.auth_message.specs.Message.{message_of}
use Rattle.auth_message.specs.declared.message.Incoming.TheVariants.{Present}
use Rattle.host_ledger.specs.Entries.{entry_at, taken_at, taken_from}
use Rattle.host_ledger.specs.declared.entry.Entry.{Entry}
use Rattle.host_ledger.specs.declared.key.Key.{Key}
use Rattle.issuer_host.specs.declared.keys.HostKeys.{HostKeys}
use Rattle.issuer_host.specs.Account.{AccountData}
use Rattle.issuer_host.specs.Balance.{is_booked, account_with_pan}
use Rattle.issuer_host.specs.Books.{Books}
use Rattle.issuer_host.specs.History.{books_of, balance_after}
use Rattle.issuer_host.specs.Records.{amount_of}
use Rattle.issuer_host.specs.Reply.{present_key}

-- what is kept of so many of the messages
abbrev pub books_after : HostKeys → List AccountData → List (List ℕ) → ℕ → Books
books_after keys accounts messages count = books_of keys accounts (take count messages)

-- whether the transaction is booked after so many of the messages
abbrev pub is_booked_after : HostKeys → List AccountData → List (List ℕ) → Key → ℕ → Bool
is_booked_after keys accounts messages key count = is_booked (books_after keys accounts messages count) key

-- the message at this place books the transaction, which none before it did
pub record IsBooking (keys : HostKeys) (accounts : List AccountData) (messages : List (List ℕ)) (key : Key) (place : ℕ) : Type 0 where
  pub within : place < length messages
  pub before : is_booked_after keys accounts messages key place ≡ false
  pub after : is_booked_after keys accounts messages key (place + 1) ≡ true

-- the message at this place is a presentment of the transaction, which takes its amount from then on
pub record TakesAmount (keys : HostKeys) (accounts : List AccountData) (messages : List (List ℕ)) (key : Key) (place : ℕ) : Type 0 where
  pub fields : PresentData
  pub presentment : option_map message_of (slice_get messages place) ≡ Some (Ok (Present fields))
  pub transaction : present_key fields ≡ key
  pub amount : (count : ℕ) → place < count → amount_of (books_after keys accounts messages count) key ≡ number_in fields.paid.t9f02

-- of any list of messages at most one books a transaction, and that is a presentment of it
pub record BookedOnce : Type 0 where
  pub once : (keys : HostKeys) (accounts : List AccountData) (messages : List (List ℕ)) (key : Key) (i j : ℕ)
      → IsBooking keys accounts messages key i → IsBooking keys accounts messages key j → i ≡ j
  pub presented : (keys : HostKeys) (accounts : List AccountData) (messages : List (List ℕ)) (key : Key) (place : ℕ)
      → IsBooking keys accounts messages key place → TakesAmount keys accounts messages key place

-- no two of the entries are of one transaction
abbrev pub AreOfApartKeys : List Entry → Type 0
AreOfApartKeys [] = Unit {0}
AreOfApartKeys (entry ∷ entries) = (entry_at entry.key entries ≡ None) × AreOfApartKeys entries

-- these are the transactions of the messages, each once with its amount, and a balance is the opening one
-- less the amounts of its account number's
pub record AddUp (keys : HostKeys) (accounts : List AccountData) (messages : List (List ℕ)) (entries : List Entry) : Type 0 where
  pub apart : AreOfApartKeys entries
  pub amounts : (key : Key) → taken_at (entry_at key entries) ≡ amount_of (books_of keys accounts messages) key
  pub balances : (pan : List ℕ) → balance_after keys accounts messages pan ≡ option_map (λ account. pos account.balance -ℤ pos (taken_from pan entries)) (account_with_pan pan accounts)

-- whatever the messages
abbrev pub BalancesAddUp : Type 0
BalancesAddUp = (keys : HostKeys) (accounts : List AccountData) (messages : List (List ℕ)) → (entries : List Entry) × AddUp keys accounts messages entries
