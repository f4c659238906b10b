-- Why the host replies to a message as it does (own): the first reason that holds, in the order in which the rules
-- are tried.
use Rattle.std.specs.Prelude.{◌≡◌, ℕ, ℤ, pos, int_lt, ◌-ℤ◌, true, false, not, if◌then◌else◌, List, Option, Some, None, Result, Ok, Err}
use Rattle.std.specs.Option.{is_some}
use Rattle.std.specs.Str.{bytes_eq}
use Rattle.emv_dict.specs.Bcd.{number_in}
use Rattle.emv_dict.specs.Date.{is_earlier}
use Rattle.auth_message.specs.Data.{RequestData, PresentData}
use Rattle.auth_message.specs.Message.{message_of}
use Rattle.auth_message.specs.declared.fault.MessageFault.{MessageFault}
use Rattle.auth_message.specs.declared.message.Incoming.{Incoming}
use Rattle.auth_message.specs.declared.message.Incoming.TheVariants.{Request, Present, Reverse}
use Rattle.auth_message.specs.declared.reversal.ReversalFields.{ReversalFields}
use Rattle.issuer_host.specs.declared.code.Code.{Code}
use Rattle.issuer_host.specs.declared.code.Code.TheVariants as code
use Rattle.issuer_host.specs.declared.keys.HostKeys.{HostKeys}
use Rattle.issuer_host.specs.declared.reason.Reason.{Reason}
use Rattle.issuer_host.specs.declared.reason.Reason.TheVariants.{Unreadable, Repeat, OtherBytes, UnknownAccount, WrongCryptogram, Blocked, OtherCurrency, Reversed, Presented, Expired, WrongPin, AboveBalance, Approved, Settled, Released, NothingHeld}
use Rattle.issuer_host.specs.Account.{AccountData}
use Rattle.issuer_host.specs.Balance.{is_booked, is_released, taken_in_all, account_with_pan}
use Rattle.issuer_host.specs.Books.{KeptCall, Books, kept_at}
use Rattle.issuer_host.specs.Code.{is_approved}
use Rattle.issuer_host.specs.Reply.{request_key, present_key, reversal_key, request_is_genuine, present_is_genuine, date_of_digits, pin_is_wrong, code_alone, said_bytes, new_request, new_present, new_reversal, reply_to}

-- the amount of a message that was kept with code 00
abbrev pub approved_amount : Option KeptCall → Option ℕ
approved_amount None = None
approved_amount (Some kept) = (if is_approved kept.code then Some kept.amount else None)

-- the balance of an account
abbrev pub left_on : AccountData → Books → ℤ
left_on account books = pos account.balance -ℤ pos (taken_in_all account.pan books)

-- the reason of the reply to a genuine request of an account
unfoldable pub genuine_reason : HostKeys → AccountData → Books → RequestData → Reason
genuine_reason keys account books f =
    if account.blocked then Blocked
    else if not (bytes_eq f.paid.t5f2a account.currency) then OtherCurrency f.paid.t5f2a account.currency
    else if is_some (kept_at (request_key f) books.reversals) then Reversed
    else if is_some (kept_at (request_key f) books.presentments) then Presented
    else if is_earlier (date_of_digits f.t5f24) (date_of_digits f.paid.t9a) then Expired f.t5f24 f.paid.t9a
    else if pin_is_wrong keys.pin account.pin account.pan f.tdf11 then WrongPin
    else if int_lt (left_on account books) (pos (number_in f.paid.t9f02)) then AboveBalance (number_in f.paid.t9f02) (left_on account books)
    else Approved (number_in f.paid.t9f02)

-- the reason of the reply to the first request of its transaction
abbrev pub request_reason : HostKeys → Option AccountData → Books → RequestData → Reason
request_reason keys None books f = UnknownAccount
request_reason keys (Some account) books f = (if request_is_genuine keys f then genuine_reason keys account books f else WrongCryptogram)

-- the reason of the reply to a presentment of an account: where it is booked, in place of the approved request's
-- amount
unfoldable pub booking_reason : HostKeys → AccountData → Books → PresentData → Reason
booking_reason keys account books f =
    if not (present_is_genuine keys f) then WrongCryptogram
    else if not (bytes_eq f.paid.t5f2a account.currency) then OtherCurrency f.paid.t5f2a account.currency
    else if is_released books (present_key f) then Reversed
    else Settled (number_in f.paid.t9f02) (approved_amount (kept_at (present_key f) books.requests))

-- the reason of the reply to the first presentment of its transaction
abbrev pub present_reason : HostKeys → Option AccountData → Books → PresentData → Reason
present_reason keys None books f = UnknownAccount
present_reason keys (Some account) books f = booking_reason keys account books f

-- what a reversal releases: the approved request's amount
abbrev pub release_reason : Option ℕ → Reason
release_reason None = NothingHeld
release_reason (Some amount) = Released amount

-- the reason of the reply to the first reversal of its transaction
abbrev pub reversal_reason : Option AccountData → Books → ReversalFields → Reason
reversal_reason None books f = UnknownAccount
reversal_reason (Some account) books f =
    (if is_booked books (reversal_key f) then Presented else release_reason (approved_amount (kept_at (reversal_key f) books.requests)))

-- the reason where a message of this kind and transaction was kept, else that of the reply to the new one
abbrev pub again_reason : Option KeptCall → List ℕ → Reason → Reason
again_reason None message reason = reason
again_reason (Some kept) message reason = (if bytes_eq kept.message message then Repeat else OtherBytes)

-- the reason of the reply to a message behind those that were kept
abbrev pub reason_in : HostKeys → List AccountData → Books → List ℕ → Result Incoming MessageFault → Reason
reason_in keys accounts books message (Err fault) = Unreadable fault
reason_in keys accounts books message (Ok (Request f)) = again_reason (kept_at (request_key f) books.requests) message (request_reason keys (account_with_pan f.named.pan accounts) books f)
reason_in keys accounts books message (Ok (Present f)) = again_reason (kept_at (present_key f) books.presentments) message (present_reason keys (account_with_pan f.named.pan accounts) books f)
reason_in keys accounts books message (Ok (Reverse f)) = again_reason (kept_at (reversal_key f) books.reversals) message (reversal_reason (account_with_pan f.pan accounts) books f)

-- the code of a reply with this reason; a repeat has the code of the kept reply
abbrev pub code_of_reason : Reason → Option Code
code_of_reason (Unreadable fault) = Some code.Declined
code_of_reason Repeat = None
code_of_reason OtherBytes = Some code.Declined
code_of_reason UnknownAccount = Some code.UnknownAccount
code_of_reason WrongCryptogram = Some code.Declined
code_of_reason Blocked = Some code.Declined
code_of_reason (OtherCurrency message account) = Some code.Declined
code_of_reason Reversed = Some code.Declined
code_of_reason Presented = Some code.Declined
code_of_reason (Expired expiry day) = Some code.Expired
code_of_reason WrongPin = Some code.WrongPin
code_of_reason (AboveBalance amount balance) = Some code.NoFunds
code_of_reason (Approved amount) = Some code.Approved
code_of_reason (Settled amount held) = Some code.Approved
code_of_reason (Released amount) = Some code.Approved
code_of_reason NothingHeld = Some code.Approved

-- the kept message of the kind and transaction of a message
abbrev pub kept_for : Books → Incoming → Option KeptCall
kept_for books (Request f) = kept_at (request_key f) books.requests
kept_for books (Present f) = kept_at (present_key f) books.presentments
kept_for books (Reverse f) = kept_at (reversal_key f) books.reversals

-- a message and the reply to it, as they are kept where it is the first of its kind and transaction
abbrev pub new_kept : HostKeys → List AccountData → Books → List ℕ → Incoming → KeptCall
new_kept keys accounts books message (Request f) = new_request keys accounts books message f
new_kept keys accounts books message (Present f) = new_present keys accounts books message f
new_kept keys accounts books message (Reverse f) = new_reversal accounts books message f

-- the reason is that of the reply: the kept reply comes again exactly for a repeat, and the reply to a new message
-- has the reason's code
pub record ReasonIsReplys (keys : HostKeys) (accounts : List AccountData) (books : Books) (message : List ℕ) (reason : Reason) : Type 0 where
  pub unreadable : (fault : MessageFault) → message_of message ≡ Err fault → (reason ≡ Unreadable fault) × (reply_to keys accounts books message ≡ said_bytes (code_alone code.Declined))
  pub repeat : (incoming : Incoming) (kept : KeptCall) → message_of message ≡ Ok incoming → kept_for books incoming ≡ Some kept → bytes_eq kept.message message ≡ true
      → (reason ≡ Repeat) × (reply_to keys accounts books message ≡ kept.reply)
  pub other : (incoming : Incoming) (kept : KeptCall) → message_of message ≡ Ok incoming → kept_for books incoming ≡ Some kept → bytes_eq kept.message message ≡ false
      → (reason ≡ OtherBytes) × (reply_to keys accounts books message ≡ said_bytes (code_alone code.Declined))
  pub first : (incoming : Incoming) → message_of message ≡ Ok incoming → kept_for books incoming ≡ None
      → (code_of_reason reason ≡ Some (new_kept keys accounts books message incoming).code) × (reply_to keys accounts books message ≡ (new_kept keys accounts books message incoming).reply)

-- each reason is that of the reply
abbrev pub ReasonsAreReplys : Type 0
ReasonsAreReplys = (keys : HostKeys) (accounts : List AccountData) (books : Books) (message : List ℕ) → ReasonIsReplys keys accounts books message (reason_in keys accounts books message (message_of message))
