-- What a card answers to GENERATE AC (this project's own policy; EMV 4.3 Book 3 section 10.8 leaves card risk
-- management to the issuer) (EMV 4.3 Book 2 section 8.2).
use Rattle.std.specs.Prelude.{◌≡◌, ℕ, ◌+◌, ◌≤◌, ◌/◌, ◌==◌, List, [], ◌∷◌, Bool, true, false, not, ◌&&◌, ◌||◌, nat_le, nat_lt, slice_index, if◌then◌else◌}
use Rattle.std.specs.Str.{bytes_eq}
use Rattle.emv_dict.specs.declared.ending.Kind.{Kind}
use Rattle.emv_dict.specs.declared.ending.Kind.TheVariants.{Aac, Tc, Arqc}
use Rattle.card_state.specs.Change.{IsWithinLimit}
use Rattle.card_state.specs.declared.decision.Auth.{Auth}
use Rattle.card_state.specs.declared.decision.Auth.TheVariants.{Absent, One as MethodOne, Two as MethodTwo}
use Rattle.card_state.specs.declared.decision.How.{How}
use Rattle.card_state.specs.declared.decision.How.TheVariants.{Authenticated as ByIssuer, Held, Alone, Offline}
use Rattle.card_state.specs.declared.decision.Which.{Which}
use Rattle.card_state.specs.declared.decision.Which.TheVariants.{One, Two, Neither}
use Rattle.card_state.specs.declared.state.AppState.{AppState}

-- the card or the application is blocked
abbrev pub is_blocked : AppState → Bool → Bool
is_blocked state card_blocked = card_blocked || state.blocked

-- a transaction may start: a counter is left
abbrev pub may_start : AppState → Bool → Bool
may_start state card_blocked = not (is_blocked state card_blocked) && nat_lt state.counter 65535

-- one more offline approval of this amount keeps the sum of its currency within its limit; no sum is kept of another
abbrev pub is_sum_within : AppState → Which → ℕ → Bool
is_sum_within state One amount = nat_le (state.sum + amount) state.sum_limit
is_sum_within state Two amount = nat_le (state.sum_two + amount) state.limit_two
is_sum_within state Neither amount = false

-- one more offline approval of this amount is within the limits
abbrev pub is_within_limits : AppState → Which → ℕ → Bool
is_within_limits state which amount = nat_le (state.count + 1) state.count_limit && is_sum_within state which amount

-- the card approves without its issuer: the last issuer authentication did not fail, and the amount is in
-- one of its currencies and within its limits
abbrev pub approves : AppState → Which → ℕ → Bool
approves state which amount = not state.auth_failed && is_within_limits state which amount

-- the first cryptogram: a blocked card or application declines, and a card that is asked to approve and
-- does not wants its issuer to decide
unfoldable pub first_kind : Kind → AppState → Bool → Which → ℕ → Kind
first_kind Aac state card_blocked which amount = Aac
first_kind Arqc state card_blocked which amount = (if is_blocked state card_blocked then Aac else Arqc)
first_kind Tc state card_blocked which amount =
    if is_blocked state card_blocked then Aac else if approves state which amount then Tc else Arqc

-- the response code "Y3": the terminal was unable to go online and would approve (EMV 4.3 Book 4 Annex A6)
abbrev pub code_y3 : List ℕ
code_y3 = 0x59 ∷ 0x33 ∷ []

abbrev pub with_how : How → Kind → Kind × How
with_how how kind = (kind, how)

-- no EXTERNAL AUTHENTICATE was right
abbrev pub is_absent : Auth → Bool
is_absent Absent = true
is_absent MethodOne = false
is_absent (MethodTwo status) = false

-- on what a second cryptogram rests where the issuer was authenticated: by method 2 it resets the totals with b8 of
-- the second byte of the card status update
abbrev pub online_how : Auth → How
online_how Absent = Alone
online_how MethodOne = ByIssuer
online_how (MethodTwo status) = (if slice_index status 1 / 128 == 1 then ByIssuer else Held)

-- by method 2 the issuer declines without b8 of the first byte of the card status update
abbrev pub is_declined_by_status : Auth → Bool
is_declined_by_status Absent = false
is_declined_by_status MethodOne = false
is_declined_by_status (MethodTwo status) = not (slice_index status 0 / 128 == 1)

-- the second cryptogram of a card that is not authenticated and not asked to decide alone: where the
-- profile has issuer authentication it was due, and the card declines
abbrev pub unauthenticated : Bool → Kind
unauthenticated issuer_auth = if issuer_auth then Aac else Tc

-- the second cryptogram of a card that is asked to approve, not blocked and not told to decline
abbrev pub approval_of : AppState → Which → ℕ → Auth → List ℕ → Bool → Kind × How
approval_of state which amount auth code issuer_auth =
    if not (is_absent auth) then with_how (online_how auth) Tc
    else if bytes_eq code code_y3 then with_how Offline (if approves state which amount then Tc else Aac)
    else with_how Alone (unauthenticated issuer_auth)

-- the second cryptogram of a card that declines
abbrev pub decline_of : Auth → Kind × How
decline_of auth = with_how (online_how auth) Aac

-- the second cryptogram, and on what it rests: a card that is blocked, not asked to approve or told to decline
-- declines
unfoldable pub second_kind : Kind → AppState → Bool → Which → ℕ → Auth → List ℕ → Bool → Kind × How
second_kind Aac state card_blocked which amount auth code issuer_auth = decline_of auth
second_kind Arqc state card_blocked which amount auth code issuer_auth = decline_of auth
second_kind Tc state card_blocked which amount auth code issuer_auth =
    if is_blocked state card_blocked || is_declined_by_status auth then decline_of auth
    else approval_of state which amount auth code issuer_auth

-- the tests of an offline approval in other words
pub record ApprovesAlone (state : AppState) (which : Which) (amount : ℕ) : Type 0 where
  pub authenticated : state.auth_failed ≡ false
  pub count : state.count + 1 ≤ state.count_limit
  pub sum : IsWithinLimit state which amount
