-- What holds of every dialogue (EMV 4.3 Book 3 section 10.4, Book 4 section 12.2 and Annex A1).
use Rattle.std.specs.Prelude.{◌≡◌, ◌⊎◌, ℕ, ◌==◌, Bool, true, false, ◌&&◌, ◌||◌, not, if◌then◌else◌, List, [], ◌∷◌, ◌++◌, drop, slice_index, Option, Some, None, is_some, option_map, Result, Ok, Err}
use Rattle.std.specs.Int.{bit_at}
use Rattle.std.specs.List.{list_any}
use Rattle.std.specs.Str.{bytes_eq}
use Rattle.auth_message.specs.Reply.{ReplyData, reply_of}
use Rattle.auth_message.specs.declared.fault.MessageFault.{MessageFault}
use Rattle.emv_dict.specs.declared.ending.Ending.{Ending}
use Rattle.emv_dict.specs.declared.ending.Ending.TheVariants.{Approved, Declined, Terminated, CutOff}
use Rattle.emv_dict.specs.declared.ending.Kind.{Kind}
use Rattle.emv_dict.specs.declared.ending.Kind.TheVariants.{Aac, Tc, Arqc}
use Rattle.emv_dict.specs.declared.ending.Step.{Step}
use Rattle.emv_dict.specs.declared.ending.Step.TheVariants as step
use Rattle.emv_dict.specs.declared.purchase.AidRow.{AidRow}
use Rattle.kernel.specs.StepsInTurn.{Standing, stands}
use Rattle.kernel.specs.Dialogue.{dialogue, is_offline_only, has_authentication}
use Rattle.kernel.specs.Ended.{EndData, end_of}
use Rattle.kernel.specs.Reply.{Reply, CardSaid, CardGone, HostSaid, HostSilent, Deed, ToCard, ToHost, Over}
use Rattle.object_lists.specs.CardRead.{ReadCard}
use Rattle.restrictions.specs.Restricted.{restricted}
use Rattle.terminal_state.specs.StepResults.{StepResult, HasRead, HasRestricted, HasVerified, HasJudged, HasAnalysed, HasFirst, HasReply, WasUnable, HasAuthenticated, HasRunBefore, HasSecond, HasRunBehind, was_sent, latest, sets_card, state_so_far}
use Rattle.terminal_state.specs.Scripts.{templates_of_tag, sound_scripts}
use Rattle.terminal_state.specs.Terminal.{Outset}

-- what a terminal did at first, and behind each reply
abbrev pub deeds_behind : Outset → List Reply → List Reply → List Deed
deeds_behind outset before [] = (dialogue outset before).deed ∷ []
deeds_behind outset before (reply ∷ later) = (dialogue outset before).deed ∷ deeds_behind outset (before ++ reply ∷ []) later

abbrev pub deeds : Outset → List Reply → List Deed
deeds outset replies = deeds_behind outset [] replies

-- further replies add deeds behind those that were done
abbrev pub DeedsGrow : Type 0
DeedsGrow = (outset : Outset) (replies more : List Reply) → (later : List Deed) × (deeds outset (replies ++ more) ≡ deeds outset replies ++ later)

-- a finished step stays finished, and no bit of one is dropped
abbrev pub StepsStay : Type 0
StepsStay =
    (outset : Outset) (replies more : List Reply)
    → (later : List StepResult) × ((dialogue outset (replies ++ more)).steps_done ≡ later ++ (dialogue outset replies).steps_done)

-- nothing changes once it is over
abbrev pub EndsStay : Type 0
EndsStay =
    (outset : Outset) (replies more : List Reply) (ending : Ending)
    → (dialogue outset replies).deed ≡ Over ending → dialogue outset (replies ++ more) ≡ dialogue outset replies

abbrev pub asks_online : Kind → Bool
asks_online Tc = false
asks_online Aac = false
asks_online Arqc = true

abbrev pub cuts : Ending → Bool
cuts (Approved online) = false
cuts (Declined online) = false
cuts (Terminated step cause) = false
cuts (CutOff step) = true

abbrev pub is_approved_ending : Ending → Bool
is_approved_ending (Approved online) = true
is_approved_ending (Declined online) = false
is_approved_ending (Terminated step cause) = false
is_approved_ending (CutOff step) = false

abbrev pub asks_host : Deed → Bool
asks_host (ToCard command) = false
asks_host (ToHost message) = true
asks_host (Over ending) = false

-- the card asks to go online
abbrev pub is_online_request : StepResult → Bool
is_online_request (HasFirst ac) = asks_online ac.kind
is_online_request other = false

-- the terminal was unable to go online: without a message, or behind one
abbrev pub is_unsent : StepResult → Bool
is_unsent (WasUnable request wanted) = not (was_sent request)
is_unsent other = false

abbrev pub is_silent : StepResult → Bool
is_silent (WasUnable request wanted) = was_sent request
is_silent other = false

-- a message was sent, and the host was silent, said what can't be read, or replied
abbrev pub is_sent : StepResult → Bool
is_sent (WasUnable request wanted) = was_sent request
is_sent (HasReply reply) = true
is_sent other = false

-- a reply with a code other than 00
abbrev pub is_reply_refused : StepResult → Bool
is_reply_refused (HasReply reply) = not (bytes_eq reply.code (0x30 ∷ 0x30 ∷ []))
is_reply_refused other = false

abbrev pub sets_reply : StepResult → Option (Option ReplyData)
sets_reply (HasReply reply) = Some (Some reply)
sets_reply other = None

-- the second cryptogram was answered: only scripts 72 run behind it
abbrev pub is_second : StepResult → Bool
is_second (HasSecond ac) = true
is_second other = false

abbrev pub is_cut_off : Deed → Bool
is_cut_off (ToCard command) = false
is_cut_off (ToHost message) = false
is_cut_off (Over ending) = cuts ending

-- what one reply makes of where a dialogue stands: the card's leaves what the host said as it was, and never cuts
abbrev pub AsBefore : List StepResult → Standing StepResult → Type 0
AsBefore steps_done t =
    (is_cut_off t.deed ≡ false) × (list_any is_silent t.steps_done ≡ list_any is_silent steps_done)
    × (latest sets_reply None t.steps_done ≡ latest sets_reply None steps_done)

-- issuer authentication is finished
abbrev pub is_issuer_authentication : StepResult → Bool
is_issuer_authentication (HasAuthenticated good) = true
is_issuer_authentication other = false

-- those of these templates that haven't run yet
abbrev pub templates_left : List (List ℕ) → List StepResult → List (List ℕ)
templates_left templates [] = templates
templates_left templates (HasRunBefore result ∷ earlier) = drop 1 (templates_left templates earlier)
templates_left templates (other ∷ earlier) = templates_left templates earlier

-- the scripts run one by one, and then the second GENERATE AC is asked
abbrev pub step_before : List (List ℕ) → Step
step_before [] = step.Second
step_before (template ∷ left) = step.Script

-- the reply's cryptogram is to be checked still, where it has one and the card has the function
abbrev pub is_unchecked : Option ReadCard → ReplyData → List StepResult → Bool
is_unchecked None reply steps_done = false
is_unchecked (Some card) reply steps_done = has_authentication card && is_some reply.auth && not (list_any is_issuer_authentication steps_done)

-- behind the issuer's reply
abbrev pub step_behind_reply : Option ReplyData → List StepResult → Step
step_behind_reply None steps_done = step.Second
step_behind_reply (Some reply) steps_done =
    if is_unchecked (latest sets_card None steps_done) reply steps_done then step.Authenticate
    else step_before (templates_left (templates_of_tag 0x71 (sound_scripts reply.scripts)) steps_done)

-- the step that follows this finished one, the latest of all
abbrev pub step_behind : StepResult → List StepResult → Step
step_behind (HasRestricted bits) steps_done = step.Verify
step_behind (HasVerified verified) steps_done = step.Risk
step_behind (HasAnalysed analysed) steps_done = step.First
step_behind (HasReply reply) steps_done = step_behind_reply (latest sets_reply None steps_done) steps_done
step_behind (HasAuthenticated good) steps_done = step_behind_reply (latest sets_reply None steps_done) steps_done
step_behind (HasRunBefore result) steps_done = step_behind_reply (latest sets_reply None steps_done) steps_done
step_behind other steps_done = step.Second

-- before the card is read, by the instruction of the command: SELECT, and READ RECORD of the directory; GET PROCESSING
-- OPTIONS; READ RECORD
abbrev pub opens_in : ℕ → Step → Bool
opens_in instruction step.Select = (instruction == 0xA4) || (instruction == 0xB2)
opens_in instruction step.Initiate = instruction == 0xA8
opens_in instruction step.Read = instruction == 0xB2
opens_in instruction other = false

-- a command with this instruction that waits behind these finished steps is one of this step
abbrev pub IsAskedIn : Step → ℕ → List StepResult → Type 0
IsAskedIn at instruction [] = opens_in instruction at ≡ true
IsAskedIn at instruction (finished ∷ earlier) = at ≡ step_behind finished (finished ∷ earlier)

-- the instruction of the command that waits, its second byte
abbrev pub instruction_of : Deed → ℕ
instruction_of (ToCard command) = slice_index command 1
instruction_of (ToHost message) = 0
instruction_of (Over ending) = 0

-- the step that a card which is gone is named in: that of its power-up before it has answered, and else that of the command
-- that was asked
abbrev pub IsLeftIn : Step → Bool → Standing StepResult → Type 0
IsLeftIn at true s = at ≡ step.Power
IsLeftIn at false s = IsAskedIn at (instruction_of s.deed) s.steps_done

-- a card that is gone cuts the dialogue off in the step of the command that was asked, unless a script 72 runs: then the
-- ending stands. `unanswered` tells whether no reply was taken yet.
abbrev pub LeavesBy : Bool → Bool → Standing StepResult → Standing StepResult → Type 0
LeavesBy false unanswered s t = (at : Step) × (t ≡ stands s.steps_done (Over (CutOff at))) × IsLeftIn at unanswered s
LeavesBy true unanswered s t = (ending : Ending) × (t.deed ≡ Over ending) × (cuts ending ≡ false)

-- no reply was taken
abbrev pub is_unanswered : List Reply → Bool
is_unanswered [] = true
is_unanswered (reply ∷ replies) = false

-- the host's silence makes the terminal unable to go online
abbrev pub IsUnable : List StepResult → Standing StepResult → Type 0
IsUnable steps_done t =
    (is_cut_off t.deed ≡ false) × (list_any is_silent t.steps_done ≡ true) × (latest sets_reply None t.steps_done ≡ latest sets_reply None steps_done)

-- and so does a reply with a fault
abbrev pub HeardBy : Result ReplyData MessageFault → List StepResult → Standing StepResult → Type 0
HeardBy (Err fault) steps_done t = IsUnable steps_done t
HeardBy (Ok reply) steps_done t =
    (is_cut_off t.deed ≡ false) × (list_any is_silent t.steps_done ≡ list_any is_silent steps_done) × (latest sets_reply None t.steps_done ≡ Some reply)

abbrev pub Turned : Bool → Standing StepResult → Reply → Standing StepResult → Type 0
Turned unanswered s (CardSaid answer now) t = AsBefore s.steps_done t
Turned unanswered s CardGone t = LeavesBy (list_any is_second s.steps_done) unanswered s t
Turned unanswered s (HostSaid reply) t = HeardBy (reply_of reply) s.steps_done t
Turned unanswered s HostSilent t = IsUnable s.steps_done t

-- each reply that is no answer to what was asked changes nothing
abbrev pub RepliesTurn : Type 0
RepliesTurn =
    (outset : Outset) (replies : List Reply) (reply : Reply)
    → let s = dialogue outset replies in let t = dialogue outset (replies ++ reply ∷ []) in (t ≡ s) ⊎ Turned (is_unanswered replies) s reply t

-- what a dialogue tells of the host at any time
pub record HostTold (outset : Outset) (s : Standing StepResult) : Type 0 where
  -- unable without a message exactly where the card asks to go online, at a terminal that never does
  pub unsent : list_any is_unsent s.steps_done ≡ (list_any is_online_request s.steps_done && is_offline_only outset.settings.kind)
  -- a message is sent once, where the card asks to go online, by another terminal
  pub asked : asks_host s.deed ≡ true
      → (list_any is_online_request s.steps_done ≡ true) × (is_offline_only outset.settings.kind ≡ false) × (list_any is_sent s.steps_done ≡ false)

-- what every dialogue tells of the host: unable without a message exactly where the card asks to go online at a
-- terminal that never does, and else a message once where the card asks for it
abbrev pub HostIsTold : Type 0
HostIsTold = (outset : Outset) (replies : List Reply) → HostTold outset (dialogue outset replies)

-- the outermost tag of the message that is captured: E3 is a presentment's, E4 a reversal's
abbrev pub captured_tag : Option (List ℕ) → Option ℕ
captured_tag message = option_map (λ bytes. slice_index bytes 0) message

-- an approval is presented; a request that was sent is reversed where no reply with a code other than 00 was read and the
-- ending is no approval
abbrev pub due_tag : Ending → List StepResult → Option ℕ
due_tag ending steps_done =
    if is_approved_ending ending then Some 0xE3
    else if list_any is_sent steps_done && not (list_any is_reply_refused steps_done) then Some 0xE4
    else None

-- a presentment is captured exactly where the ending is an approval, a reversal exactly where a request was sent, no reply
-- with a code other than 00 was read and the ending is no approval, and nothing else
abbrev pub CapturesFit : Type 0
CapturesFit =
    (outset : Outset) (replies : List Reply) (end : EndData) → end_of outset (dialogue outset replies) ≡ Some end
    → captured_tag end.capture ≡ due_tag end.ending (dialogue outset replies).steps_done

-- once the card is read, the bits of the processing restrictions stand; before it no step is finished
abbrev pub IsRestricted : Outset → List StepResult → Type 0
IsRestricted outset steps_done =
    (steps_done ≡ [])
    ⊎ ((card : ReadCard) × (row : AidRow) × (later : List StepResult)
    × (steps_done ≡ later ++ HasRestricted (restricted card outset.settings row outset.purchase) ∷ HasRead card ∷ []))

-- once the card is read the bits of the processing restrictions stand, and before that no step is finished
abbrev pub ReadingRestricts : Type 0
ReadingRestricts = (outset : Outset) (replies : List Reply) → IsRestricted outset (dialogue outset replies).steps_done

-- Nothing is captured where a dialogue begins, nor with the reply that finishes reading or ends the dialogue before that: the
-- terminal has asked for no cryptogram yet.
abbrev pub CapturesNothing : Outset → List Reply → Type 0
CapturesNothing outset replies = (end : EndData) → end_of outset (dialogue outset replies) ≡ Some end → end.capture ≡ None

-- nothing is captured at first, nor with the reply that finishes reading or ends the dialogue before
pub record ReadingCapturesNothing : Type 0 where
  pub first : (outset : Outset) → CapturesNothing outset []
  pub read : (outset : Outset) (replies : List Reply) (reply : Reply) → latest sets_card None (dialogue outset replies).steps_done ≡ None
      → CapturesNothing outset (replies ++ reply ∷ [])

-- the bits that a step may set (EMV 4.3 Book 3 Annex C5), the five bytes of the terminal verification results one behind
-- another: no offline data authentication; restrictions; verification; risk management; issuer authentication; scripts
-- before and behind the second cryptogram
abbrev pub bits_of_step : StepResult → ℕ
bits_of_step (HasRead card) = 0x8000000000
bits_of_step (HasRestricted bits) = 0x00F0000000
bits_of_step (HasVerified verified) = 0x2000FC0000
bits_of_step (HasJudged judged) = 0x300800F800
bits_of_step (HasAuthenticated good) = 0x0000000040
bits_of_step (HasRunBefore result) = 0x0000000020
bits_of_step (HasRunBehind result) = 0x0000000010
bits_of_step other = 0x0000000000

-- a bit that stands, at a place counted from 0 at the right, belongs to a step that is finished
abbrev pub BitsBelong : Type 0
BitsBelong =
    (outset : Outset) (replies : List Reply) (place : ℕ) → bit_at (state_so_far (dialogue outset replies).steps_done).tvr place ≡ 1
    → list_any (λ step_result. bit_at (bits_of_step step_result) place == 1) (dialogue outset replies).steps_done ≡ true
