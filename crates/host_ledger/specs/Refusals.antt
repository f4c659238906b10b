-- Which calls a ledger refuses, the first reason that holds.
use Rattle.std.specs.Prelude.{◌≡◌, ℕ, ℤ, pos, int_lt, if◌then◌else◌, Option, Some, None, option_map, Result, Ok, Err}
use Rattle.host_ledger.specs.declared.entry.Entry.{Entry}
use Rattle.host_ledger.specs.declared.fault.LedgerFault.{LedgerFault}
use Rattle.host_ledger.specs.declared.fault.LedgerFault.TheVariants.{UnknownAccount, AlreadyBooked, NoFunds, OutOfMemory}
use Rattle.host_ledger.specs.Entries.{is_held}

-- why no amount is held, by the balance of the account, the entry of the transaction and the amount
abbrev pub hold_refusal : Option ℤ → Option Entry → ℕ → Option LedgerFault
hold_refusal None kept amount = Some UnknownAccount
hold_refusal (Some balance) (Some entry) amount = Some (AlreadyBooked entry)
hold_refusal (Some balance) None amount = (if int_lt balance (pos amount) then Some (NoFunds balance) else None)

-- the entry where it is booked or released
abbrev pub settled_entry : Option Entry → Option Entry
settled_entry None = None
settled_entry (Some entry) = (if is_held entry.state then None else Some entry)

-- why no amount is booked or released
abbrev pub settle_refusal : Option ℤ → Option Entry → Option LedgerFault
settle_refusal None kept = Some UnknownAccount
settle_refusal (Some balance) kept = option_map AlreadyBooked (settled_entry kept)

-- a call answers with the refusal where there is one; want of memory comes only where there is none
abbrev pub AnswersRefusal : {T : Type 0} → Result T LedgerFault → Option LedgerFault → Type 0
AnswersRefusal (Ok value) refusal = refusal ≡ None
AnswersRefusal (Err OutOfMemory) refusal = refusal ≡ None
AnswersRefusal (Err fault) refusal = refusal ≡ Some fault
