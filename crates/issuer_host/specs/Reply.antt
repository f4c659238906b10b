-- The host's reply to a message, from the messages that it has kept (own).
use Rattle.std.specs.Prelude.{ℕ, pos, int_lt, ◌-ℤ◌, Bool, true, false, not, ◌&&◌, ◌||◌, if◌then◌else◌, List, [], slice_index, Option, Some, None, Result, Ok, Err}
use Rattle.std.specs.Int.{from_be_bytes, w16}
use Rattle.std.specs.List.{list_any}
use Rattle.std.specs.Option.{is_some}
use Rattle.std.specs.Str.{bytes_eq}
use Rattle.emv_dict.specs.Bcd.{number_of_bcd, number_in}
use Rattle.emv_dict.specs.Date.{year_of, is_earlier}
use Rattle.emv_dict.specs.declared.date.Date.{Date}
use Rattle.pin_block.specs.Online.{online_of}
use Rattle.card_keys.specs.Master.{master_key_of}
use Rattle.card_keys.specs.Session.{session_ac_of, session_script_of}
use Rattle.app_cryptogram.specs.Cryptograms.{ac_of}
use Rattle.app_cryptogram.specs.declared.fields.AcFields.{AcFields}
use Rattle.auth_message.specs.Data.{RequestData, PresentData}
use Rattle.auth_message.specs.Message.{message_of}
use Rattle.auth_message.specs.Spelling.{reply_bytes}
use Rattle.auth_message.specs.declared.fault.MessageFault.{MessageFault}
use Rattle.auth_message.specs.declared.groups.Paid.{Paid}
use Rattle.auth_message.specs.declared.message.Incoming.{Incoming}
use Rattle.auth_message.specs.declared.message.Incoming.TheVariants.{Request, Present, Reverse}
use Rattle.auth_message.specs.declared.reversal.ReversalFields.{ReversalFields}
use Rattle.host_ledger.specs.declared.key.Key.{Key}
use Rattle.issuer_host.specs.declared.code.Code.{Code}
use Rattle.issuer_host.specs.declared.code.Code.TheVariants.{Approved, Declined, UnknownAccount, NoFunds, Expired, WrongPin}
use Rattle.issuer_host.specs.declared.keys.HostKeys.{HostKeys}
use Rattle.issuer_host.specs.declared.script.ScriptKeys.{ScriptKeys}
use Rattle.issuer_host.specs.Account.{AccountData}
use Rattle.issuer_host.specs.Balance.{is_booked, is_released, taken_in_all, account_with_pan}
use Rattle.issuer_host.specs.Books.{KeptCall, Books, kept_at}
use Rattle.issuer_host.specs.Code.{code_bytes}
use Rattle.issuer_host.specs.Response.{response_by}
use Rattle.issuer_host.specs.Scripts.{all_script_bytes}

-- the sequence number of the account number, 0 where there is none
abbrev pub sequence_of : Option (List ℕ) → ℕ
sequence_of None = 0
sequence_of (Some bytes) = slice_index bytes 0

-- what names a transaction: 5A, 5F34 and 9F36
abbrev pub key_of : List ℕ → Option (List ℕ) → List ℕ → Key
key_of pan t5f34 t9f36 = record { pan = pan; sequence = sequence_of t5f34; counter = from_be_bytes w16 t9f36 }

abbrev pub request_key : RequestData → Key
request_key f = key_of f.named.pan f.named.t5f34 f.paid.t9f36

abbrev pub present_key : PresentData → Key
present_key f = key_of f.named.pan f.named.t5f34 f.paid.t9f36

abbrev pub reversal_key : ReversalFields → Key
reversal_key f = key_of f.pan f.t5f34 f.t9f36

-- the card's session key of a transaction for cryptograms
abbrev pub session_of : List ℕ → Key → List ℕ
session_of issuer key = session_ac_of (master_key_of issuer key.pan key.sequence) key.counter

-- what a cryptogram covers of a payment, 9F10 aside (EMV 4.3 Book 2 section 8.1.1)
abbrev pub ac_fields_of : Paid → AcFields
ac_fields_of paid = record {
  amount = paid.t9f02;
  other = paid.t9f03;
  country = paid.t9f1a;
  tvr = paid.t95;
  currency = paid.t5f2a;
  date = paid.t9a;
  trade = slice_index paid.t9c 0;
  number = paid.t9f37;
  aip = paid.t82;
  counter = paid.t9f36;
}

-- 9F26 is the cryptogram of a payment and 9F10 under a session key
abbrev pub is_made_under : List ℕ → Paid → List ℕ → Bool
is_made_under session paid t9f10 = bytes_eq (ac_of session (ac_fields_of paid) t9f10) paid.t9f26

-- 9F26 is the card's cryptogram of the message's fields
abbrev pub request_is_genuine : HostKeys → RequestData → Bool
request_is_genuine keys f = is_made_under (session_of keys.ac (request_key f)) f.paid f.t9f10

abbrev pub present_is_genuine : HostKeys → PresentData → Bool
present_is_genuine keys f = is_made_under (session_of keys.ac (present_key f)) f.paid f.t9f10

-- year, month and day of three bytes of digits; they need not be a day of the calendar
abbrev pub date_of_digits : List ℕ → Date
date_of_digits bytes = record { year = year_of (number_of_bcd (slice_index bytes 0)); month = number_of_bcd (slice_index bytes 1); day = number_of_bcd (slice_index bytes 2) }

-- the PIN that the terminal sent, if it sent one, is not the account's
abbrev pub pin_is_wrong : List ℕ → Option (List ℕ) → List ℕ → Option (List ℕ) → Bool
pin_is_wrong key pin pan None = false
pin_is_wrong key None pan (Some block) = true
pin_is_wrong key (Some pin) pan (Some block) = not (bytes_eq (online_of key pin pan) block)

-- a reversal or a presentment of the transaction was kept
abbrev pub is_closed : Books → Key → Bool
is_closed books key = is_some (kept_at key books.reversals) || is_some (kept_at key books.presentments)

-- the decision on a genuine request: the first reason to decline it that holds
unfoldable pub request_code : HostKeys → AccountData → Books → RequestData → Code
request_code keys account books f =
    if account.blocked then Declined
    else if not (bytes_eq f.paid.t5f2a account.currency) then Declined
    else if is_closed books (request_key f) then Declined
    else if is_earlier (date_of_digits f.t5f24) (date_of_digits f.paid.t9a) then Expired
    else if pin_is_wrong keys.pin account.pin account.pan f.tdf11 then WrongPin
    else if int_lt (pos account.balance -ℤ pos (taken_in_all account.pan books)) (pos (number_in f.paid.t9f02)) then NoFunds
    else Approved

-- the decision on a presentment
unfoldable pub present_code : HostKeys → AccountData → Books → PresentData → Code
present_code keys account books f =
    if not (present_is_genuine keys f) || (not (bytes_eq f.paid.t5f2a account.currency) || is_released books (present_key f)) then Declined else Approved

-- the decision on a reversal
abbrev pub reversal_code : Books → ReversalFields → Code
reversal_code books f = (if is_booked books (reversal_key f) then Declined else Approved)

-- what a reply says: the decision, the issuer authentication data where the request was genuine, and the
-- scripts
pub record ReplySaid : Type 0 where
  pub code : Code
  pub auth : Option (List ℕ)
  pub scripts : List ℕ

-- a reply with the code alone
abbrev pub code_alone : Code → ReplySaid
code_alone code = record { code = code; auth = None; scripts = [] }

abbrev pub said_bytes : ReplySaid → List ℕ
said_bytes said = reply_bytes (code_bytes said.code) said.auth said.scripts

-- a reply to this account number carried issuer authentication data
abbrev pub is_served : List ℕ → Books → Bool
is_served pan books = list_any (λ kept. kept.online && bytes_eq pan kept.key.pan) books.requests

abbrev pub script_keys : HostKeys → RequestData → ScriptKeys
script_keys keys f = record {
  mac = session_script_of (master_key_of keys.mac (request_key f).pan (request_key f).sequence) f.paid.t9f26;
  enc = session_script_of (master_key_of keys.enc (request_key f).pan (request_key f).sequence) f.paid.t9f26;
  counter = (request_key f).counter;
  cryptogram = f.paid.t9f26;
}

-- the account's scripts, where no reply carried them yet
abbrev pub scripts_for : HostKeys → AccountData → Books → RequestData → List ℕ
scripts_for keys account books f = (if is_served account.pan books then [] else all_script_bytes (script_keys keys f) account.scripts)

-- the issuer authentication data by the account's method, under a session key
abbrev pub response_under : List ℕ → AccountData → RequestData → Code → List ℕ
response_under session account f code = response_by account.arpc account.status session f.paid.t9f26 code

-- the same under the card's key
abbrev pub keyed_response : HostKeys → AccountData → RequestData → Code → List ℕ
keyed_response keys account f code = response_under (session_of keys.ac (request_key f)) account f code

-- the reply to a genuine request with this decision
abbrev pub online_reply : HostKeys → AccountData → Books → RequestData → Code → ReplySaid
online_reply keys account books f code = record { code = code; auth = Some (keyed_response keys account f code); scripts = scripts_for keys account books f }

-- the reply to the first message of its kind and transaction
abbrev pub request_reply : HostKeys → Option AccountData → Books → RequestData → ReplySaid
request_reply keys None books f = code_alone UnknownAccount
request_reply keys (Some account) books f =
    if request_is_genuine keys f then online_reply keys account books f (request_code keys account books f) else code_alone Declined

abbrev pub present_reply : HostKeys → Option AccountData → Books → PresentData → ReplySaid
present_reply keys None books f = code_alone UnknownAccount
present_reply keys (Some account) books f = code_alone (present_code keys account books f)

abbrev pub reversal_reply : Option AccountData → Books → ReversalFields → ReplySaid
reversal_reply None books f = code_alone UnknownAccount
reversal_reply (Some account) books f = code_alone (reversal_code books f)

-- a message and what was said to it, as it is kept
abbrev pub kept_with : Key → ℕ → List ℕ → ReplySaid → KeptCall
kept_with key amount message said = record {
  key = key;
  amount = amount;
  message = message;
  code = said.code;
  online = is_some said.auth;
  reply = said_bytes said;
}

abbrev pub new_request : HostKeys → List AccountData → Books → List ℕ → RequestData → KeptCall
new_request keys accounts books message f = kept_with (request_key f) (number_in f.paid.t9f02) message (request_reply keys (account_with_pan f.named.pan accounts) books f)

abbrev pub new_present : HostKeys → List AccountData → Books → List ℕ → PresentData → KeptCall
new_present keys accounts books message f = kept_with (present_key f) (number_in f.paid.t9f02) message (present_reply keys (account_with_pan f.named.pan accounts) books f)

abbrev pub new_reversal : List AccountData → Books → List ℕ → ReversalFields → KeptCall
new_reversal accounts books message f = kept_with (reversal_key f) (number_in f.t9f02) message (reversal_reply (account_with_pan f.pan accounts) books f)

-- the kept reply again, where a message of this kind and transaction was kept with these bytes; 05 where
-- it had others; else the reply to the new one
abbrev pub again_or : Option KeptCall → List ℕ → List ℕ → List ℕ
again_or None message reply = reply
again_or (Some kept) message reply = (if bytes_eq kept.message message then kept.reply else said_bytes (code_alone Declined))

abbrev pub reply_to_message : HostKeys → List AccountData → Books → List ℕ → Result Incoming MessageFault → List ℕ
reply_to_message keys accounts books message (Err fault) = said_bytes (code_alone Declined)
reply_to_message keys accounts books message (Ok (Request f)) = again_or (kept_at (request_key f) books.requests) message (new_request keys accounts books message f).reply
reply_to_message keys accounts books message (Ok (Present f)) = again_or (kept_at (present_key f) books.presentments) message (new_present keys accounts books message f).reply
reply_to_message keys accounts books message (Ok (Reverse f)) = again_or (kept_at (reversal_key f) books.reversals) message (new_reversal accounts books message f).reply

-- the reply to a message behind those that were kept
unfoldable pub reply_to : HostKeys → List AccountData → Books → List ℕ → List ℕ
reply_to keys accounts books message = reply_to_message keys accounts books message (message_of message)
