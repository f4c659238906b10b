-- The entries of a ledger, one a transaction, and what they take from a balance.
use Rattle.std.specs.Prelude.{ℕ, Bool, true, false, if◌then◌else◌, List, [], ◌∷◌, Option, Some, None, filter, sum_by}
use Rattle.std.specs.Str.{bytes_eq}
use Rattle.host_ledger.specs.declared.key.Key.{Key}
use Rattle.host_ledger.specs.declared.entry.Entry.{Entry}
use Rattle.host_ledger.specs.declared.entry.EntryState.{EntryState}
use Rattle.host_ledger.specs.declared.entry.EntryState.TheVariants.{Held, Booked, Released}
use Rattle.host_ledger.specs.Key.{same_key}

-- the entry of a transaction
abbrev pub entry_at : Key → List Entry → Option Entry
entry_at key [] = None
entry_at key (entry ∷ entries) = (if same_key key entry.key then Some entry else entry_at key entries)

-- the entries with this one in place of its transaction's, or behind the others where it is new
abbrev pub with_entry : Entry → List Entry → List Entry
with_entry kept [] = kept ∷ []
with_entry kept (entry ∷ entries) = (if same_key kept.key entry.key then kept ∷ entries else entry ∷ with_entry kept entries)

abbrev pub is_held : EntryState → Bool
is_held Held = true
is_held Booked = false
is_held Released = false

-- what an amount takes from the balance in this state
abbrev pub amount_taken : EntryState → ℕ → ℕ
amount_taken Held amount = amount
amount_taken Booked amount = amount
amount_taken Released amount = 0

-- what the entry of a transaction takes, if there is one
abbrev pub taken_at : Option Entry → ℕ
taken_at None = 0
taken_at (Some entry) = amount_taken entry.state entry.amount

-- what the held and booked entries of an account number take in all
abbrev pub taken_from : List ℕ → List Entry → ℕ
taken_from pan entries = sum_by (λ entry. amount_taken entry.state entry.amount) (filter (λ entry. bytes_eq pan entry.key.pan) entries)
