-- How EXTERNAL AUTHENTICATE authenticates the issuer (EMV 4.3 Book 2 section 8.2; sections 8.2.1, 8.2.2).
use Rattle.std.specs.Prelude.{ℕ, List, ◌==◌, ◌&&◌, Bool, true, false, if◌then◌else◌, nat_le, length, take, drop, Option, Some, None}
use Rattle.std.specs.Str.{bytes_eq}
use Rattle.app_cryptogram.specs.Cryptograms.{arpc_of, arpc_two_of}
use Rattle.card_keys.specs.Session.{session_ac_of}
use Rattle.card_state.specs.declared.decision.Auth.{Auth}
use Rattle.card_state.specs.declared.decision.Auth.TheVariants.{Absent, One, Two}
use Rattle.card_state.specs.declared.decision.Steered.{Steered}

-- from eight bytes to sixteen
abbrev pub is_authentication_size : ℕ → Bool
is_authentication_size size = nat_le 8 size && nat_le size 16

-- method 1: eight bytes that are the response cryptogram of the first cryptogram and the code behind them
abbrev pub is_response_one : List ℕ → List ℕ → List ℕ → Bool
is_response_one session first body = bytes_eq (take 8 body) (arpc_of session first (drop 8 body))

-- the card status update
abbrev pub status_in : List ℕ → List ℕ
status_in body = take 4 (drop 4 body)

-- method 2: four bytes that are the response cryptogram of the first cryptogram, the card status update behind them
-- and the proprietary data at the end
abbrev pub is_response_two : List ℕ → List ℕ → List ℕ → Bool
is_response_two session first body = bytes_eq (take 4 body) (arpc_two_of session first (status_in body) (drop 8 body))

-- ten bytes are data of method 1, any other number of method 2
abbrev pub authentication_in : List ℕ → List ℕ → List ℕ → Auth
authentication_in session first body =
    if length body == 10 then (if is_response_one session first body then One else Absent)
    else (if is_response_two session first body then Two (status_in body) else Absent)

-- how these data authenticate the issuer to a card of this key, in the transaction of this counter and first cryptogram
unfoldable pub authentication : List ℕ → ℕ → List ℕ → List ℕ → Auth
authentication key counter first body = authentication_in (session_ac_of key counter) first body

-- how the issuer is authenticated by such data where it is
abbrev pub told_by : List ℕ → Auth
told_by body = if length body == 10 then One else Two (status_in body)

-- how it was authenticated, where EXTERNAL AUTHENTICATE was sent or not
abbrev pub auth_of : Option Auth → Auth
auth_of None = Absent
auth_of (Some auth) = auth

-- whether the issuer is authenticated, by either method
abbrev pub is_authenticated : Auth → Bool
is_authenticated Absent = false
is_authenticated One = true
is_authenticated (Two status) = true

-- a card status update steers the card, and may restore so many PIN tries
abbrev pub steered_by : ℕ → Auth → Option Steered
steered_by limit Absent = None
steered_by limit One = None
steered_by limit (Two status) = Some (record { status = status; limit = limit })
