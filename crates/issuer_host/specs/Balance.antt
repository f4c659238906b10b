-- What the kept messages take from the balances (own).
use Rattle.std.specs.Prelude.{ℕ, ◌+◌, ℤ, pos, ◌-ℤ◌, Bool, not, ◌&&◌, ◌||◌, if◌then◌else◌, List, [], ◌∷◌, Option, Some, None, option_map, filter, sum_by}
use Rattle.std.specs.Str.{bytes_eq}
use Rattle.host_ledger.specs.declared.key.Key.{Key}
use Rattle.issuer_host.specs.Account.{AccountData}
use Rattle.issuer_host.specs.Books.{KeptCall, Books, kept_at, was_approved}
use Rattle.issuer_host.specs.Code.{is_approved}

-- a presentment of the transaction was approved
abbrev pub is_booked : Books → Key → Bool
is_booked books key = was_approved (kept_at key books.presentments)

-- a reversal of the transaction was approved
abbrev pub is_released : Books → Key → Bool
is_released books key = was_approved (kept_at key books.reversals)

-- an approved presentment takes its amount
abbrev pub booked_amount : KeptCall → ℕ
booked_amount kept = (if is_approved kept.code then kept.amount else 0)

-- an approved request takes its amount until its transaction is booked or released
abbrev pub held_amount : Books → KeptCall → ℕ
held_amount books kept = (if is_approved kept.code && not (is_booked books kept.key || is_released books kept.key) then kept.amount else 0)

-- the kept messages of an account number
abbrev pub of_pan : List ℕ → List KeptCall → List KeptCall
of_pan pan messages = filter (λ kept. bytes_eq pan kept.key.pan) messages

-- what an account number's transactions take in all
abbrev pub taken_in_all : List ℕ → Books → ℕ
taken_in_all pan books = sum_by booked_amount (of_pan pan books.presentments) + sum_by (held_amount books) (of_pan pan books.requests)

-- the account of an account number
abbrev pub account_with_pan : List ℕ → List AccountData → Option AccountData
account_with_pan pan [] = None
account_with_pan pan (account ∷ accounts) = (if bytes_eq pan account.pan then Some account else account_with_pan pan accounts)

-- its balance: the opening one less what is taken
abbrev pub balance_in : List AccountData → Books → List ℕ → Option ℤ
balance_in accounts books pan = option_map (λ account. pos account.balance -ℤ pos (taken_in_all pan books)) (account_with_pan pan accounts)
