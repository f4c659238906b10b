-- A granting answer to GET PROCESSING OPTIONS gives an application's own profile and locator.
use Rattle.std.proofs.Common.{◌≡◌, ℕ, ◌+◌, ◌≤◌, false, List, [], ◌∷◌, ◌++◌, nat_le, length, Some, None, Result, Ok, Err, ap, sym, ◌∙◌, arith, length-append, le-leb, true}
use Rattle.auth_message.proofs.Sizes.{written_short}
use Rattle.apdu_core.specs.Response.{response_of}
use Rattle.ber_tlv.specs.Written.{written}
use Rattle.card_cryptogram.specs.Options.{options_body}
use Rattle.emv_dict.specs.Progress.{Stopped, Done, Leads}
use Rattle.emv_dict.specs.declared.ending.Cause.{Cause}
use Rattle.env_map.specs.Entries.{Entries}
use Rattle.dialogue_laws.proofs.OptionsRead.{one_read}
use Rattle.read_records.specs.Options.{Opened, profile_and_locator, granted_by, response_said, options_said, after_options, initiated, initiating}

-- the body in format 1 has room in an answer
pub fits_one : (aip afl : List ℕ) → length aip ≡ 2 → length afl ≤ 248 → nat_le (length (options_body 1 aip afl)) 256 ≡ true
unfolding options_body
fits_one aip afl two few =
    let size : length (aip ++ afl) ≡ length aip + length afl = length-append aip afl in
    let room : length (written 0x80 (aip ++ afl)) ≤ length (aip ++ afl) + 6 = written_short 0x80 (aip ++ afl) in
    le-leb (length (written 0x80 (aip ++ afl))) 256 (omega arith)

-- so that it isn't refused there
pub has_room : (aip afl profile locator : List ℕ) → length aip ≡ 2 → length afl ≤ 248 → profile ≡ aip → locator ≡ afl
    → false ≡ nat_le (length (options_body 1 profile locator)) 256 → ⊥
has_room aip afl profile locator two few profile_is locator_is full =
    let fits : nat_le (length (options_body 1 aip afl)) 256 ≡ true = fits_one aip afl two few in
    let same : options_body 1 profile locator ≡ options_body 1 aip afl = cc in
    let full_too : nat_le (length (options_body 1 profile locator)) 256 ≡ true = ap (λ (body : List ℕ). nat_le (length body) 256) same ∙ fits in
    cc

-- what the answer with this body says
pub grants : (answer body aip afl : List ℕ) → response_of answer ≡ Some (record { body = body; status = 0x9000 }) → body ≡ options_body 1 aip afl → length aip ≡ 2
    → options_said answer ≡ granted_by (profile_and_locator aip afl)
unfolding options_said options_body
grants answer body aip afl response is two = ap response_said response ∙ ap granted_by (one_read body aip afl is two)

-- without an object list the step begins with no data
pub is_begun : (terminal : Entries) (cause : Cause) → Leads (initiating None terminal) [] (λ _. Stopped cause) → ⊥
unfolding initiated
is_begun terminal cause leads = let same = leads [] in cc

module _ (given answer : List ℕ) (begun : Result Opened Cause) (says : options_said answer ≡ granted_by begun) where
  -- what comes of the answer
  comes : initiated given (answer ∷ []) ≡ after_options (granted_by begun) []
  unfolding initiated
  comes = ap (λ said. after_options said []) says

  pub is_read : (start : Opened) → Leads (initiated given) (answer ∷ []) (Done (Some start)) → begun ≡ Ok start
  is_read start leads = by begun (sym comes ∙ leads [])
    where
      by : (found : Result Opened Cause) → after_options (granted_by found) [] ≡ Done (Some start) [] → found ≡ Ok start
      by (Ok other) same = cc
      by (Err cause) same = absurd (cc)

  pub is_ended : (cause : Cause) → Leads (initiated given) (answer ∷ []) (λ _. Stopped cause) → begun ≡ Err cause
  is_ended cause leads = by begun (sym comes ∙ leads [])
    where
      by : (found : Result Opened Cause) → after_options (granted_by found) [] ≡ Stopped cause → found ≡ Err cause
      by (Ok other) same = absurd (cc)
      by (Err other) same = cc

  pub is_granted : Leads (initiated given) (answer ∷ []) (Done None) → ⊥
  is_granted leads = by begun (sym comes ∙ leads [])
    where
      by : (found : Result Opened Cause) → after_options (granted_by found) [] ≡ Done None [] → ⊥
      by (Ok other) same = cc
      by (Err other) same = cc
