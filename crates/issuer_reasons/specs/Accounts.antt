-- What is known of the accounts, and what approved requests took from them.
use Rattle.std.specs.Prelude.{ℕ, ◌+◌, ◌-◌, ◌^◌, Bool, ◌&&◌, nat_lt, nat_le, if◌then◌else◌, min, List, [], ◌∷◌, ◌++◌, length, position, slice_get, slice_set, Option, Some, None}
use Rattle.std.specs.Str.{bytes_eq}
use Rattle.issuer_reasons.specs.declared.account.Account.{Account}
use Rattle.issuer_reasons.specs.declared.account.AccountNow.{AccountNow}
use Rattle.issuer_reasons.specs.declared.account.Charge.{Charge}

-- the account of a number
abbrev pub is_account : List ℕ → Account → Bool
is_account pan account = bytes_eq account.pan.items pan

abbrev pub known_account_place : List Account → List ℕ → Option ℕ
known_account_place accounts pan = position (is_account pan) accounts

-- what was taken from the account of a number
abbrev pub is_charged : List ℕ → Charge → Bool
is_charged pan charge = bytes_eq charge.pan.items pan

abbrev pub charge_place : List Charge → List ℕ → Option ℕ
charge_place charges pan = position (is_charged pan) charges

abbrev pub amount_of_charge : Option Charge → ℕ
amount_of_charge None = 0
amount_of_charge (Some charge) = charge.amount

abbrev pub charge_found : List Charge → Option ℕ → ℕ
charge_found charges None = 0
charge_found charges (Some place) = amount_of_charge (slice_get charges place)

abbrev pub charged_so_far : List Charge → List ℕ → ℕ
charged_so_far charges pan = charge_found charges (charge_place charges pan)

-- an account behind what was taken from it
abbrev pub account_behind : Account → ℕ → AccountNow
account_behind account taken = record { balance = account.balance - taken; blocked = account.blocked; currency = account.currency }

abbrev pub account_if : Option Account → ℕ → Option AccountNow
account_if None taken = None
account_if (Some account) taken = Some (account_behind account taken)

abbrev pub account_found : List Account → ℕ → Option ℕ → Option AccountNow
account_found accounts taken None = None
account_found accounts taken (Some place) = account_if (slice_get accounts place) taken

-- the account of a number behind what was taken from it
abbrev pub account_now : List Account → List Charge → List ℕ → Option AccountNow
account_now accounts charges pan = account_found accounts (charged_so_far charges pan) (known_account_place accounts pan)

-- an amount more is taken, up to the greatest number of 64 bits
abbrev pub raised_by : ℕ → Charge → Charge
raised_by amount charge = record charge { amount = min (charge.amount + amount) (2 ^ 64 - 1) }

abbrev pub charge_raised : ℕ → List Charge → ℕ → Option Charge → List Charge
charge_raised amount charges place None = charges
charge_raised amount charges place (Some charge) = slice_set charges place (raised_by amount charge)

-- an account more: 64 are kept, of numbers of at most ten bytes
abbrev pub charges_with : List ℕ → ℕ → List Charge → List Charge
charges_with pan amount charges =
    if nat_lt (length charges) 64 && nat_le (length pan) 10 then charges ++ record { pan = record { items = pan }; amount = amount } ∷ [] else charges

abbrev pub charged_at : List ℕ → ℕ → List Charge → Option ℕ → List Charge
charged_at pan amount charges None = charges_with pan amount charges
charged_at pan amount charges (Some place) = charge_raised amount charges place (slice_get charges place)

-- an amount is taken from the account of a number
abbrev pub charged : List ℕ → ℕ → List Charge → List Charge
charged pan amount charges = charged_at pan amount charges (charge_place charges pan)
