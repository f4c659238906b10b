-- What the finished steps of a dialogue leave: which bits stand at a moment, and the other values that the terminal
-- then holds (EMV 4.3 Book 3 section 10 and Annexes C5 and C6; Book 4 Annex A6).
use Rattle.std.specs.Prelude.{ℕ, Bool, true, false, ◌==◌, not, if◌then◌else◌, List, [], ◌∷◌, ◌++◌, length, bit_or, Option, Some, None}
use Rattle.std.specs.Str.{bytes_eq}
use Rattle.auth_message.specs.Reply.{ReplyData}
use Rattle.emv_dict.specs.Digits.{is_pin_length}
use Rattle.emv_dict.specs.Flags.{tvr_bit, tsi_bit}
use Rattle.emv_dict.specs.Views.{AcData}
use Rattle.emv_dict.specs.declared.ending.Kind.{Kind}
use Rattle.emv_dict.specs.declared.ending.Kind.TheVariants.{Aac, Tc, Arqc}
use Rattle.emv_dict.specs.declared.judged.Judged.{Judged}
use Rattle.emv_dict.specs.declared.purchase.AidRow.{AidRow}
use Rattle.emv_dict.specs.declared.verified.Verified.{Verified}
use Rattle.object_lists.specs.CardRead.{ReadCard}
use Rattle.terminal_state.specs.declared.state_so_far.Analysed.{Analysed}
use Rattle.terminal_state.specs.declared.state_so_far.Conclusion.{Conclusion}
use Rattle.terminal_state.specs.declared.state_so_far.Conclusion.TheVariants.{ByReply, ByAnalysis}
use Rattle.terminal_state.specs.declared.state_so_far.OnlineRequest.{OnlineRequest}
use Rattle.terminal_state.specs.declared.state_so_far.OnlineRequest.TheVariants.{Sent, NotSent}

-- a step that is finished, with what it found
pub data StepResult : Type 0 where
  HasRead : (card : ReadCard) → StepResult
  HasRestricted : (bits : ℕ) → StepResult
  HasVerified : (verified : Verified) → StepResult
  HasJudged : (judged : Judged) → StepResult
  -- action analysis wants this kind of cryptogram first, by these codes of the terminal
  HasAnalysed : (analysed : Analysed) → StepResult
  HasFirst : (ac : AcData) → StepResult
  -- the host's reply was read
  HasReply : (reply : ReplyData) → StepResult
  -- the terminal was unable to go online, behind a request or without one, and wants this kind
  WasUnable : (request : OnlineRequest) → (wanted : Kind) → StepResult
  HasAuthenticated : (good : Bool) → StepResult
  -- a template 71 ran, to this result
  HasRunBefore : (result : List ℕ) → StepResult
  HasSecond : (ac : AcData) → StepResult
  -- a template 72
  HasRunBehind : (result : List ℕ) → StepResult

-- in the application of this row, action analysis wants this kind first
abbrev pub analysed_by : AidRow → Kind → Analysed
analysed_by row wanted = record { denial = row.denial; online = row.online; fallback = row.fallback; wanted = wanted }

-- these bits where the condition holds
abbrev pub bits_if : Bool → ℕ → ℕ
bits_if condition bits = (if condition then bits else 0)

-- the first byte of a script's result is 20 where all its commands went on
abbrev pub ran_whole : List ℕ → Bool
ran_whole [] = false
ran_whole (first ∷ identifier) = first == 0x20

-- the bits of the terminal verification results that a step gives
abbrev pub sets_tvr : StepResult → Option ℕ
sets_tvr (HasRead card) = Some (tvr_bit 1 8)
sets_tvr (HasRestricted bits) = Some bits
sets_tvr (HasVerified verified) = Some verified.tvr.0
sets_tvr (HasJudged judged) = Some judged.tvr.0
sets_tvr (HasAuthenticated good) = Some (bits_if (not good) (tvr_bit 5 7))
sets_tvr (HasRunBefore result) = Some (bits_if (not (ran_whole result)) (tvr_bit 5 6))
sets_tvr (HasRunBehind result) = Some (bits_if (not (ran_whole result)) (tvr_bit 5 5))
sets_tvr other = None

-- those of the transaction status information
abbrev pub sets_tsi : StepResult → Option ℕ
sets_tsi (HasVerified verified) = Some (bits_if verified.performed (tsi_bit 1 7))
sets_tsi (HasJudged judged) = Some (bits_if judged.performed (tsi_bit 1 4))
sets_tsi (HasFirst ac) = Some (tsi_bit 1 6)
sets_tsi (HasAuthenticated good) = Some (tsi_bit 1 5)
sets_tsi (HasRunBefore result) = Some (tsi_bit 1 3)
sets_tsi (HasRunBehind result) = Some (tsi_bit 1 3)
sets_tsi other = None

abbrev pub with_bits : Option ℕ → ℕ → ℕ
with_bits None earlier = earlier
with_bits (Some bits) earlier = bit_or earlier bits

-- the bits that stand: the union over the finished steps
abbrev pub union : (StepResult → Option ℕ) → List StepResult → ℕ
union given [] = 0
union given (step_result ∷ steps_done) = with_bits (given step_result) (union given steps_done)

abbrev pub or_earlier : {A : Type 0} → Option A → A → A
or_earlier None earlier = earlier
or_earlier (Some value) earlier = value

-- what the latest step gives that gives something, else what stands at the beginning
abbrev pub latest : {A : Type 0} → (StepResult → Option A) → A → List StepResult → A
latest given beginning [] = beginning
latest given beginning (step_result ∷ steps_done) = or_earlier (given step_result) (latest given beginning steps_done)

-- Y1: approved offline; Z1: declined offline; a card that asks to go online leaves none
abbrev pub offline_code : Kind → Option (List ℕ)
offline_code Tc = Some (0x59 ∷ 0x31 ∷ [])
offline_code Aac = Some (0x5A ∷ 0x31 ∷ [])
offline_code Arqc = None

-- unable to go online, Y3: approved; Z3: declined
abbrev pub unable_code : Kind → List ℕ
unable_code Tc = 0x59 ∷ 0x33 ∷ []
unable_code Aac = 0x5A ∷ 0x33 ∷ []
unable_code Arqc = 0x5A ∷ 0x33 ∷ []

-- the authorisation response code (8A) that a step sets, or takes away
abbrev pub sets_code : StepResult → Option (Option (List ℕ))
sets_code (HasAnalysed analysed) = Some (offline_code analysed.wanted)
sets_code (HasFirst ac) = Some (offline_code ac.kind)
sets_code (HasReply reply) = Some (Some reply.code)
sets_code (WasUnable request wanted) = Some (Some (unable_code wanted))
sets_code other = None

-- the verification results (9F34)
abbrev pub sets_results : StepResult → Option (List ℕ)
sets_results (HasVerified verified) = Some verified.results
sets_results other = None

-- an entry that is a PIN, as each one is
abbrev pub sound_pin : Option (List ℕ) → Option (List ℕ)
sound_pin None = None
sound_pin (Some digits) = (if is_pin_length (length digits) then Some digits else None)

-- the PIN that goes to the issuer
abbrev pub sets_pin : StepResult → Option (Option (List ℕ))
sets_pin (HasVerified verified) = Some (sound_pin verified.online_pin)
sets_pin other = None

-- the issuer authentication data (91)
abbrev pub sets_issuer_data : StepResult → Option (Option (List ℕ))
sets_issuer_data (HasReply reply) = Some reply.auth
sets_issuer_data other = None

-- the counter that the request goes with: that of the card's first answer
abbrev pub sets_counter : StepResult → Option (Option ℕ)
sets_counter (HasFirst ac) = Some (Some ac.counter)
sets_counter other = None

-- the cryptogram that the card answered last
abbrev pub sets_ac : StepResult → Option (Option AcData)
sets_ac (HasFirst ac) = Some (Some ac)
sets_ac (HasSecond ac) = Some (Some ac)
sets_ac other = None

-- what reading gave
abbrev pub sets_card : StepResult → Option (Option ReadCard)
sets_card (HasRead card) = Some (Some card)
sets_card other = None

-- a request went to the issuer
abbrev pub was_sent : OnlineRequest → Bool
was_sent Sent = true
was_sent NotSent = false

-- a request was sent, and no reply other than 00 was read
abbrev pub open_of : StepResult → Option Bool
open_of (HasReply reply) = Some (bytes_eq reply.code (0x30 ∷ 0x30 ∷ []))
open_of (WasUnable request wanted) = Some (was_sent request)
open_of other = None

-- the terminal's codes, and the kind that is asked for first
abbrev pub sets_analysed : StepResult → Option (Option Analysed)
sets_analysed (HasAnalysed analysed) = Some (Some analysed)
sets_analysed other = None

-- what the kind of the second cryptogram rests on
abbrev pub sets_conclusion : StepResult → Option (Option Conclusion)
sets_conclusion (HasReply reply) = Some (Some (ByReply reply.code))
sets_conclusion (WasUnable request wanted) = Some (Some (ByAnalysis wanted))
sets_conclusion other = None

-- the results of the scripts, the first one first
abbrev pub scripts_results : List StepResult → List (List ℕ)
scripts_results [] = []
scripts_results (HasRunBefore result ∷ steps_done) = scripts_results steps_done ++ result ∷ []
scripts_results (HasRunBehind result ∷ steps_done) = scripts_results steps_done ++ result ∷ []
scripts_results (other ∷ steps_done) = scripts_results steps_done

-- the terminal verification results when the first GENERATE AC was asked, and the second one
abbrev pub tvr_when_first : List StepResult → ℕ
tvr_when_first [] = 0
tvr_when_first (HasAnalysed analysed ∷ steps_done) = union sets_tvr steps_done
tvr_when_first (other ∷ steps_done) = tvr_when_first steps_done

abbrev pub tvr_when_second : List StepResult → Option ℕ
tvr_when_second [] = None
tvr_when_second (HasSecond ac ∷ steps_done) = Some (union sets_tvr steps_done)
tvr_when_second (other ∷ steps_done) = tvr_when_second steps_done

-- what the terminal holds at a moment
pub record StateSoFarData : Type 0 where
  pub tvr : ℕ
  pub tsi : ℕ
  -- zeros until verification is finished
  pub results : List ℕ
  pub code : Option (List ℕ)
  pub issuer_data : Option (List ℕ)
  pub pin : Option (List ℕ)
  pub counter : Option ℕ
  pub last : Option AcData
  pub is_open : Bool
  pub tvr_when_first : ℕ
  pub tvr_when_second : Option ℕ
  pub analysed : Option Analysed
  pub concluded : Option Conclusion
  pub scripts : List (List ℕ)

-- what the terminal holds once these steps are finished
abbrev pub state_so_far : List StepResult → StateSoFarData
state_so_far steps_done = record {
  tvr = union sets_tvr steps_done;
  tsi = union sets_tsi steps_done;
  results = latest sets_results (0 ∷ 0 ∷ 0 ∷ []) steps_done;
  code = latest sets_code None steps_done;
  issuer_data = latest sets_issuer_data None steps_done;
  pin = latest sets_pin None steps_done;
  counter = latest sets_counter None steps_done;
  last = latest sets_ac None steps_done;
  is_open = latest open_of false steps_done;
  tvr_when_first = tvr_when_first steps_done;
  tvr_when_second = tvr_when_second steps_done;
  analysed = latest sets_analysed None steps_done;
  concluded = latest sets_conclusion None steps_done;
  scripts = scripts_results steps_done;
}
