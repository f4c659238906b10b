-- What an approved message says of its account and its transaction.
use Rattle.std.proofs.Common.{◌≡◌, ℕ, Bool, true, false, not, ◌||◌, if◌then◌else◌, Option, Some, None, refl, ℤ, pos, ◌-ℤ◌}
use Rattle.std.specs.Prelude.{int_lt, IsSome}
use Rattle.std.specs.Option.{is_some}
use Rattle.std.specs.Str.{bytes_eq}
use Rattle.emv_dict.specs.Bcd.{number_in}
use Rattle.emv_dict.specs.Date.{is_earlier}
use Rattle.auth_message.specs.Data.{RequestData, PresentData}
use Rattle.auth_message.specs.declared.reversal.ReversalFields.{ReversalFields}
use Rattle.host_ledger.specs.declared.key.Key.{Key}
use Rattle.issuer_host.specs.declared.code.Code.TheVariants.{Approved, Declined, NoFunds, Expired, WrongPin}
use Rattle.issuer_host.specs.declared.keys.HostKeys.{HostKeys}
use Rattle.issuer_host.specs.Account.{AccountData}
use Rattle.issuer_host.specs.Balance.{is_booked, is_released, taken_in_all}
use Rattle.issuer_host.specs.Books.{Books, kept_at}
use Rattle.issuer_host.specs.Code.{is_approved}
use Rattle.issuer_host.specs.Records.{RecordsData, balance_left, is_open}
use Rattle.issuer_host.specs.Reply.{request_key, present_key, reversal_key, request_is_genuine, present_is_genuine, date_of_digits, pin_is_wrong, is_closed, request_code, present_code, code_alone, online_reply, request_reply, present_reply, reversal_reply}

chain : (a b c d e f : Bool) → is_approved (if a then Declined else if b then Declined else if c then Declined else if d then Expired else if e then WrongPin else if f then NoFunds else Approved) ≡ true → (c ≡ false) × (f ≡ false)
chain true b c d e f is = cc
chain false true c d e f is = cc
chain false false true d e f is = cc
chain false false false true e f is = cc
chain false false false false true f is = cc
chain false false false false false true is = cc
chain false false false false false false is = (refl, refl)

-- an approved request: its account, and that its amount can be held
pub record OpenRequest (account : Option AccountData) (books : Books) (f : RequestData) : Type 0 where
  pub own : AccountData
  pub known : account ≡ Some own
  pub closed : is_closed books (request_key f) ≡ false
  pub covered : int_lt (pos own.balance -ℤ pos (taken_in_all own.pan books)) (pos (number_in f.paid.t9f02)) ≡ false

pub request_open : (keys : HostKeys) (account : Option AccountData) (books : Books) (f : RequestData) → is_approved (request_reply keys account books f).code ≡ true → OpenRequest account books f
unfolding request_code
request_open keys None books f is = cc
request_open keys (Some a) books f is = by (request_is_genuine keys f) is
  where
    by : (g : Bool) → is_approved (if g then online_reply keys a books f (request_code keys a books f) else code_alone Declined).code ≡ true → OpenRequest (Some a) books f
    by false h = cc
    by true h =
        let facts = chain a.blocked (not (bytes_eq f.paid.t5f2a a.currency)) (is_closed books (request_key f)) (is_earlier (date_of_digits f.t5f24) (date_of_digits f.paid.t9a)) (pin_is_wrong keys.pin a.pin a.pan f.tdf11) (int_lt (pos a.balance -ℤ pos (taken_in_all a.pan books)) (pos (number_in f.paid.t9f02))) h in
        record { own = a; known = refl; closed = facts.0; covered = facts.1 }

swap_none : (r p : Bool) → (r || p) ≡ false → not (p || r) ≡ true
swap_none true p is = cc
swap_none false true is = cc
swap_none false false is = refl

-- so the ledger takes it
pub open_where : (records : RecordsData) (key : Key) (amount : ℕ) (balance : ℤ) → is_closed records.books key ≡ false → balance_left records key.pan ≡ Some balance → int_lt balance (pos amount) ≡ false → is_open records key amount ≡ true
open_where records key amount balance closed known covered =
    rw (swap_none (is_some (kept_at key records.books.reversals)) (is_some (kept_at key records.books.presentments)) closed, known, covered) refl

pub record OpenPresentment (account : Option AccountData) (books : Books) (f : PresentData) : Type 0 where
  pub own : AccountData
  pub known : account ≡ Some own
  pub unreleased : is_released books (present_key f) ≡ false

present_chain : (a b c : Bool) → is_approved (if not a || (not b || c) then Declined else Approved) ≡ true → c ≡ false
present_chain false b c is = cc
present_chain true false c is = cc
present_chain true true true is = cc
present_chain true true false is = refl

pub present_open : (keys : HostKeys) (account : Option AccountData) (books : Books) (f : PresentData) → is_approved (present_reply keys account books f).code ≡ true → OpenPresentment account books f
unfolding present_code
present_open keys None books f is = cc
present_open keys (Some a) books f is = record { own = a; known = refl; unreleased = present_chain (present_is_genuine keys f) (bytes_eq f.paid.t5f2a a.currency) (is_released books (present_key f)) is }

pub record OpenReversal (account : Option AccountData) (books : Books) (f : ReversalFields) : Type 0 where
  pub own : AccountData
  pub known : account ≡ Some own
  pub unbooked : is_booked books (reversal_key f) ≡ false

reversal_chain : (c : Bool) → is_approved (if c then Declined else Approved) ≡ true → c ≡ false
reversal_chain true is = cc
reversal_chain false is = refl

pub reversal_open : (account : Option AccountData) (books : Books) (f : ReversalFields) → is_approved (reversal_reply account books f).code ≡ true → OpenReversal account books f
reversal_open None books f is = cc
reversal_open (Some a) books f is = record { own = a; known = refl; unbooked = reversal_chain (is_booked books (reversal_key f)) is }

pub some_where : (r : Option ℤ) (balance : ℤ) → r ≡ Some balance → IsSome r
some_where r balance is = rw is refl
