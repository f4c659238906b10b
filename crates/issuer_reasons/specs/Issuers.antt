-- On what an issuer's code rests (docs/proof/profile.md, HOST-1 to HOST-9).
use Rattle.std.specs.Prelude.{ℕ, ◌+◌, ◌*◌, ◌/◌, ◌%◌, ◌==◌, Bool, true, false, not, ◌&&◌, nat_lt, if◌then◌else◌, List, [], ◌++◌, length, slice_index, codes, Option, Some, None, option_map, Result, Ok, Err}
use Rattle.ber_tlv.specs.Direct.{found_value, sole_value}
use Rattle.ber_tlv.specs.Left.{items_of}
use Rattle.ber_tlv.specs.declared.item.TlvFault.{TlvFault}
use Rattle.report_lines.specs.Pieces.{Piece, line, text, number, reference_or_none}
use Rattle.report_lines.specs.declared.references.TheConstants.{HELD, ABOVE_BALANCE, NO_ACCOUNT, EXPIRED, WRONG_PIN, NOT_ALLOWED, WRONG_CRYPTOGRAM}
use Rattle.issuer_reasons.specs.Wanted.{currency_words}
use Rattle.issuer_reasons.specs.Accounts.{account_now, charged}
use Rattle.issuer_reasons.specs.declared.account.Account.{Account}
use Rattle.issuer_reasons.specs.declared.account.AccountNow.{AccountNow}
use Rattle.issuer_reasons.specs.declared.account.Charge.{Charge}
use Rattle.issuer_reasons.specs.declared.wanted.Wanted.{Wanted}
use Rattle.issuer_reasons.specs.declared.issuer.IssuerReason.{IssuerReason}
use Rattle.issuer_reasons.specs.declared.issuer.IssuerReason.TheVariants.{Covered, AboveBalance, UnknownAccount, Expired, WrongPin, AccountBlocked, OtherCurrency, SettledBefore, OneOfThree, NotGenuine, OtherCode}
use Rattle.issuer_reasons.specs.declared.issuer.KnownAccounts.{KnownAccounts}
use Rattle.issuer_reasons.specs.declared.issuer.Reply.{Reply}
use Rattle.issuer_reasons.specs.declared.issuer.TheConstants.{COVERS, IS_ABOVE, SETTLED_BEFORE, ONE_OF_THREE, NOT_GENUINE}

-- a currency is known, and another one
abbrev pub is_other_currency : ℕ → Option Wanted → Bool
is_other_currency own None = false
is_other_currency own (Some wanted) = not (wanted.currency == own)

-- a genuine request that is declined with 05: the account is blocked, else its currency is another one, else a reversal or a
-- presentment of the transaction came before
abbrev pub declined_reason : Option AccountNow → Option Wanted → IssuerReason
declined_reason None wanted = OneOfThree
declined_reason (Some account) wanted =
    if account.blocked then AccountBlocked else if is_other_currency account.currency wanted then OtherCurrency else SettledBefore

-- a request is genuine where its reply authenticates the issuer
abbrev pub refused_reason : Reply → Option Wanted → IssuerReason
refused_reason reply wanted = (if reply.authenticates then declined_reason reply.account wanted else NotGenuine)

abbrev pub code_number : List ℕ → ℕ
code_number code = slice_index code 0 * 256 + slice_index code 1

-- on what the code of a reply to a request rests
abbrev pub issuer_reason : Reply → Option Wanted → IssuerReason
issuer_reason reply wanted =
    let code = code_number reply.code in
    if code == 0x3030 then Covered
    else if code == 0x3035 then refused_reason reply wanted
    else if code == 0x3134 then UnknownAccount
    else if code == 0x3531 then AboveBalance
    else if code == 0x3534 then Expired
    else if code == 0x3535 then WrongPin
    else OtherCode

-- before a balance that may be less
abbrev pub at_most_words : Bool → List Piece
at_most_words is_unsure = (if is_unsure then text (codes "of at most ") else [])

-- a balance, which may be less
abbrev pub balance_words : ℕ → Bool → List Piece
balance_words balance is_unsure = text (codes "the balance ") ++ at_most_words is_unsure ++ number balance

abbrev pub covered_by : ℕ → ℕ → Bool → List Piece
covered_by amount balance is_unsure = balance_words balance is_unsure ++ text (codes " covers the amount ") ++ number amount

abbrev pub above_account_words : ℕ → ℕ → Bool → List Piece
above_account_words amount balance is_unsure = text (codes "the amount ") ++ number amount ++ text (codes " is above ") ++ balance_words balance is_unsure

-- an approval, with its numbers where they are known
abbrev pub covered_words : Reply → Option AccountNow → Option Wanted → List Piece
covered_words reply None wanted = text COVERS.now
covered_words reply (Some account) None = text COVERS.now
covered_words reply (Some account) (Some wanted) = covered_by wanted.amount account.balance reply.is_unsure

abbrev pub above_balance_words : Reply → Option AccountNow → Option Wanted → List Piece
above_balance_words reply None wanted = text IS_ABOVE.now
above_balance_words reply (Some account) None = text IS_ABOVE.now
above_balance_words reply (Some account) (Some wanted) = above_account_words wanted.amount account.balance reply.is_unsure

abbrev pub other_words : ℕ → ℕ → List Piece
other_words own currency = text (codes "the currency ") ++ currency_words currency ++ text (codes " isn't the account's, ") ++ currency_words own

abbrev pub other_account_words : Option AccountNow → Option Wanted → List Piece
other_account_words None wanted = []
other_account_words (Some account) None = []
other_account_words (Some account) (Some wanted) = other_words account.currency wanted.currency

-- a reason that rests on numbers
abbrev pub numbers_words : IssuerReason → Reply → Option Wanted → List Piece
numbers_words Covered reply wanted = covered_words reply reply.account wanted
numbers_words AboveBalance reply wanted = above_balance_words reply reply.account wanted
numbers_words OtherCurrency reply wanted = other_account_words reply.account wanted
numbers_words _ reply wanted = []

-- a reason
abbrev pub issuer_reason_words : IssuerReason → Reply → Option Wanted → List Piece
issuer_reason_words UnknownAccount reply wanted = text (codes "no account has the number")
issuer_reason_words Expired reply wanted = text (codes "the card's expiry is before the date")
issuer_reason_words WrongPin reply wanted = text (codes "the PIN isn't the account's")
issuer_reason_words AccountBlocked reply wanted = text (codes "the account is blocked")
issuer_reason_words SettledBefore reply wanted = text SETTLED_BEFORE.now
issuer_reason_words OneOfThree reply wanted = text ONE_OF_THREE.now
issuer_reason_words NotGenuine reply wanted = text NOT_GENUINE.now
issuer_reason_words OtherCode reply wanted = text (codes "the issuer's own reasons")
issuer_reason_words other reply wanted = numbers_words other reply wanted

-- the rule behind a reason
abbrev pub issuer_reference : IssuerReason → Option (List ℕ)
issuer_reference Covered = Some HELD.now
issuer_reference AboveBalance = Some ABOVE_BALANCE.now
issuer_reference UnknownAccount = Some NO_ACCOUNT.now
issuer_reference Expired = Some EXPIRED.now
issuer_reference WrongPin = Some WRONG_PIN.now
issuer_reference AccountBlocked = Some NOT_ALLOWED.now
issuer_reference OtherCurrency = Some NOT_ALLOWED.now
issuer_reference SettledBefore = Some NOT_ALLOWED.now
issuer_reference OneOfThree = Some NOT_ALLOWED.now
issuer_reference NotGenuine = Some WRONG_CRYPTOGRAM.now
issuer_reference OtherCode = None

-- a reply to a request, and on what it rests, with the rule
abbrev pub reply_reason_words : Reply → Option Wanted → List Piece
reply_reason_words reply wanted =
    text (codes "its code is ") ++ text reply.code ++ text (codes ": ") ++ issuer_reason_words (issuer_reason reply wanted) reply wanted
    ++ reference_or_none (issuer_reference (issuer_reason reply wanted))

abbrev pub no_reply_words : Bool → List Piece
no_reply_words requested =
    if requested then text (codes "no reply came: the request or the reply was lost") else text (codes "it was not asked")

abbrev pub reply_or_none : Bool → Option Reply → Option Wanted → List Piece
reply_or_none requested None wanted = no_reply_words requested
reply_or_none requested (Some reply) wanted = reply_reason_words reply wanted

-- on what the issuer's reply rests, or that none came
abbrev pub issuer_words : Bool → Option Reply → Option Wanted → List Piece
issuer_words requested reply wanted = line 1 ++ text (codes "issuer: ") ++ reply_or_none requested reply wanted

-- what is known of the accounts: as they were when the report began, what approved requests took since, and whether they may
-- have less
pub record AccountsData : Type 0 where
  pub accounts : List Account
  pub charges : List Charge
  pub is_unsure : Bool

-- the same, as the program has it
abbrev pub seen_accounts : KnownAccounts → AccountsData
seen_accounts known = record { accounts = known.accounts.now; charges = known.charges.now; is_unsure = known.is_unsure }

-- an object is there
abbrev pub is_there : Result (Option (List ℕ)) TlvFault → Bool
is_there (Ok (Some value)) = true
is_there (Ok None) = false
is_there (Err fault) = false

-- a reply authenticates the issuer where it has issuer authentication data (91), which stand in field 55 of a reply in the
-- style of ISO 8583, behind 18 bytes
abbrev pub has_issuer_authentication : List ℕ → Bool
has_issuer_authentication objects = is_there (found_value 0x91 (items_of objects))

abbrev pub has_field_55 : List ℕ → Bool
has_field_55 reply = nat_lt 18 (length reply) && slice_index reply 10 / 2 % 2 == 1

abbrev pub authenticates_by : Option (List ℕ) → List ℕ → Bool
authenticates_by None reply = has_field_55 reply
authenticates_by (Some objects) reply = has_issuer_authentication objects

abbrev pub authenticates : List ℕ → Bool
authenticates reply = authenticates_by (sole_value 0xE2 (items_of reply)) reply

-- a reply to a request of an account, where it has a code
abbrev pub reply_seen : AccountsData → List ℕ → Option (List ℕ) → List ℕ → Option Reply
reply_seen known pan code reply = option_map (λ c. record {
  code = c;
  authenticates = authenticates reply;
  account = account_now known.accounts known.charges pan;
  is_unsure = known.is_unsure;
}) code

-- what a reply approved is taken from its account
abbrev pub charged_by : List ℕ → Reply → Option Wanted → List Charge → List Charge
charged_by pan reply None charges = charges
charged_by pan reply (Some wanted) charges = (if code_number reply.code == 0x3030 then charged pan wanted.amount charges else charges)
