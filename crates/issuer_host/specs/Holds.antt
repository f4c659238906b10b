-- What a host keeps beside its accounts.
use Rattle.std.specs.Prelude.{◌≡◌, ℕ, Bool, true, false, List, map, length, Option, Some, None, slice_get}
use Rattle.std.specs.List.{All, position_from}
use Rattle.std.specs.Str.{bytes_eq}
use Rattle.std.proofs.Math.ListN.{set}
use Rattle.issuer_host.specs.Account.{AccountData, IsAccount}
use Rattle.issuer_host.specs.Records.{RecordsData}
use Rattle.issuer_host.specs.Reply.{is_served}

-- the place of the first account with an account number
abbrev pub account_place : List ℕ → List AccountData → Option ℕ
account_place pan accounts = position_from (λ account. bytes_eq pan account.pan) 0 accounts

-- the account number and its opening balance
abbrev pub opening_balance : AccountData → List ℕ × ℕ
opening_balance account = (account.pan, account.balance)

-- the account at a place
abbrev pub account_in : List AccountData → Option ℕ → Option AccountData
account_in accounts None = None
account_in accounts (Some place) = slice_get accounts place

abbrev pub or_false : Option Bool → Bool
or_false None = false
or_false (Some flag) = flag

-- the flag at a place
abbrev pub flag_at : List Bool → Option ℕ → Bool
flag_at flags None = false
flag_at flags (Some place) = or_false (slice_get flags place)

-- the flags with the one at a place set
abbrev pub with_flag : List Bool → Option ℕ → List Bool
with_flag flags None = flags
with_flag flags (Some place) = set flags place true

-- the records are those of the accounts, and for each account it is known whether a reply carried its scripts
pub record Holds (accounts : List AccountData) (records : RecordsData) (served : List Bool) : Type 0 where
  pub valid : All IsAccount accounts
  pub openings : records.accounts ≡ map opening_balance accounts
  pub sized : length served ≡ length accounts
  pub flags : (pan : List ℕ) (place : ℕ) → account_place pan accounts ≡ Some place → slice_get served place ≡ Some (is_served pan records.books)
