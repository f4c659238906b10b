-- A table's look-up and insertion by the keys' test are those of the lists that contracts see.
use Rattle.std.proofs.Common.{◌≡◌, ℕ, Bool, true, false, cond, List, [], ◌∷◌, Option, Some, map, refl, sym, ap}
use Rattle.std.specs.Prelude.{option_map}
use Rattle.std.specs.Map.{lookup}
use Rattle.std.specs.Str.{bytes_eq}
use Rattle.indexmap.specs.IndexMap.{insert_entry}
use Rattle.host_ledger.specs.declared.key.Key.{Key}
use Rattle.host_ledger.specs.declared.rows.Row.{Row}
use Rattle.host_ledger.specs.declared.accounts.Account.{Account}
use Rattle.host_ledger.specs.declared.entry.Entry.{Entry}
use Rattle.host_ledger.specs.Account.{account_at, with_account}
use Rattle.host_ledger.specs.Entries.{entry_at, with_entry}
use Rattle.host_ledger.specs.Key.{same_key}
use Rattle.host_ledger.specs.KeptEntries.{kept_entry}
use Rattle.host_ledger.proofs.Keys.{same}

pub account_found : (test : List ℕ → Bool) (pan : List ℕ) (es : List (List ℕ × Account)) → ((k : List ℕ) → test k ≡ bytes_eq pan k) → lookup test es ≡ account_at pan es
account_found test pan [] is = refl
account_found test pan (e ∷ es) is = rw (is e.0, account_found test pan es is) refl

pub account_kept : (eq : List ℕ → List ℕ → Bool) (pan : List ℕ) (account : Account) (es : List (List ℕ × Account)) → ((k : List ℕ) → eq pan k ≡ bytes_eq pan k) → insert_entry eq es pan account ≡ with_account pan account es
account_kept eq pan account [] is = refl
account_kept eq pan account (e ∷ es) is = rw (is e.0, account_kept eq pan account es is) refl

-- an entry of this key, whatever key it is kept under
abbrev pub as_entry : Key → Row → Entry
as_entry key row = record { key = key; amount = row.amount; state = row.state }

first_found : (b : Bool) (key : Key) (e : Key × Row) (rest : Option Row) (others : Option Entry) → same_key key e.0 ≡ b → option_map (as_entry key) rest ≡ others
    → option_map (as_entry key) (cond b (Some e.1) rest) ≡ cond b (Some (kept_entry e)) others
first_found true key e rest others is h = ap (λ k. Some (as_entry k e.1)) (same key e.0 is)
first_found false key e rest others is h = h

pub entry_found : (test : Key → Bool) (key : Key) (es : List (Key × Row)) → ((k : Key) → test k ≡ same_key key k) → option_map (as_entry key) (lookup test es) ≡ entry_at key (map kept_entry es)
entry_found test key [] is = refl
entry_found test key (e ∷ es) is = rw (is e.0) (first_found (same_key key e.0) key e (lookup test es) (entry_at key (map kept_entry es)) refl (entry_found test key es is))

first_kept : (b : Bool) (key : Key) (row : Row) (e : Key × Row) (rest : List (Key × Row)) (es : List (Key × Row)) (others : List Entry) → same_key key e.0 ≡ b → map kept_entry rest ≡ others
    → map kept_entry (cond b ((e.0, row) ∷ es) (e ∷ rest)) ≡ cond b (as_entry key row ∷ map kept_entry es) (kept_entry e ∷ others)
first_kept true key row e rest es others is h = ap (λ k. as_entry k row ∷ map kept_entry es) (sym (same key e.0 is))
first_kept false key row e rest es others is h = ap (λ l. kept_entry e ∷ l) h

pub entry_kept : (eq : Key → Key → Bool) (key : Key) (row : Row) (es : List (Key × Row)) → ((k : Key) → eq key k ≡ same_key key k) → map kept_entry (insert_entry eq es key row) ≡ with_entry (as_entry key row) (map kept_entry es)
entry_kept eq key row [] is = refl
entry_kept eq key row (e ∷ es) is = rw (is e.0) (first_kept (same_key key e.0) key row e (insert_entry eq es key row) es (with_entry (as_entry key row) (map kept_entry es)) refl (entry_kept eq key row es is))
