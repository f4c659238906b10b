-- From action analysis on, a dialogue with a card that makes cryptograms ends with a decision.
use Rattle.std.proofs.Common.{◌≡◌, ℕ, Bool, true, false, if◌then◌else◌, List, [], ◌∷◌, slice_get, Option, Some, None, Result, Ok, Err, refl}
use Rattle.std.specs.Str.{bytes_eq}
use Rattle.std.specs.List.{All}
use Rattle.std.proofs.lemmas.List.Elements.{All-head, All-tail, All-nil}
use Rattle.action_analysis.specs.Analysed.{codes_of, unable, meets}
use Rattle.action_analysis.specs.TerminalKinds.{is_online_only}
use Rattle.action_analysis.specs.declared.Codes.{Codes}
use Rattle.auth_message.specs.Reply.{ReplyData, reply_of}
use Rattle.auth_message.specs.declared.fault.MessageFault.{MessageFault}
use Rattle.ber_tlv.specs.Left.{items_of, items_behind, items_from}
use Rattle.card_cryptogram.specs.Asked.{is_arqc}
use Rattle.card_cryptogram.specs.declared.phase.Phase.TheVariants.{Started}
use Rattle.card_files.specs.Views.{AppData, ImageData}
use Rattle.dialogue_laws.proofs.Answers.{phase_at}
use Rattle.dialogue_laws.proofs.Asking.{first_runs, second_runs}
use Rattle.dialogue_laws.proofs.Ends.{Ends, over, sends}
use Rattle.dialogue_laws.proofs.Generating.{AnswersAreReadBack}
use Rattle.dialogue_laws.proofs.Runs.{chain}
use Rattle.dialogue_laws.proofs.Scripting.{plain_runs, any_runs, authenticate_runs}
use Rattle.dialogue_laws.proofs.Stages.{HasLists, AnalysisEnds}
use Rattle.dialogue_laws.proofs.Standing.{IsOnline}
use Rattle.dialogue_laws.specs.Cards.{Now}
use Rattle.dialogue_laws.specs.UncutPurchase.{IsDecided, IsPlainScript, IsPlainReply, IsLinked}
use Rattle.emv_dict.specs.Views.{AcData}
use Rattle.emv_dict.specs.declared.ending.Ending.{Ending}
use Rattle.emv_dict.specs.declared.ending.Ending.TheVariants.{Approved, Declined}
use Rattle.emv_dict.specs.declared.ending.Kind.{Kind}
use Rattle.emv_dict.specs.declared.ending.Kind.TheVariants.{Aac, Tc, Arqc}
use Rattle.emv_dict.specs.declared.ending.Step.TheVariants as step
use Rattle.emv_dict.specs.declared.purchase.Logged.{Logged}
use Rattle.kernel.specs.StepsInTurn.{cut_off, host_step}
use Rattle.kernel.specs.Dialogue.{TransactionData, objects_at, decision, left_script, scripts_behind, second, kind_for, scripts_before, issuer_scripts, has_authentication, authentication_by, issuer_authentication, kind_unable, unable_online, reply_read, replied, is_offline_only, online, first_answered, first, kind_wanted, analysis}
use Rattle.kernel.specs.Reply.{from_host}
use Rattle.kernel.specs.declared.stage.OnlineOutcome.{OnlineOutcome}
use Rattle.kernel.specs.declared.stage.OnlineOutcome.TheVariants.{Replied, Unable}
use Rattle.online_step.specs.Authenticate.{authentication_step}
use Rattle.online_step.specs.Generate.{generated, list_data}
use Rattle.online_step.specs.Request.{request_of}
use Rattle.online_step.specs.declared.ac.GenerateAc.TheVariants as generate
use Rattle.script_run.specs.Ran.{template_ran}
use Rattle.terminal_state.specs.StepResults as step_result
use Rattle.terminal_state.specs.StepResults.{StepResult, analysed_by, state_so_far}
use Rattle.terminal_state.specs.Scripts.{templates_of_tag, has_few_scripts, kept_host_reply}
use Rattle.terminal_state.specs.declared.state_so_far.OnlineRequest.{OnlineRequest}
use Rattle.terminal_state.specs.declared.state_so_far.OnlineRequest.TheVariants.{Sent, NotSent}

is_decision : (outcome : OnlineOutcome) (kind : Kind) → IsDecided (decision outcome kind)
is_decision outcome Tc = tt
is_decision outcome Aac = tt
is_decision outcome Arqc = tt

-- the kinds that are asked for the second time are no requests
reply_offline : (code : List ℕ) → is_arqc (kind_for code) ≡ false
reply_offline code = by (bytes_eq code (0x30 ∷ 0x30 ∷ []))
  where
    by : (approved : Bool) → is_arqc (if approved then Tc else Aac) ≡ false
    by true = refl
    by false = refl

unable_offline : (tvr : ℕ) (codes : Codes) (kind : ℕ) → is_arqc (unable tvr codes kind) ≡ false
unfolding unable
unable_offline tvr codes kind = by (is_online_only kind) (meets tvr codes.fallback)
  where
    by : (only met : Bool) → is_arqc (if only then Aac else if met then Aac else Tc) ≡ false
    by true met = refl
    by false true = refl
    by false false = refl

-- a reply as it is kept has the same templates, or none
kept_plain : (scripts : List ℕ) → All IsPlainScript (templates_of_tag 0x71 scripts) → (few : Bool) → All IsPlainScript (templates_of_tag 0x71 (if few then scripts else []))
unfolding templates_of_tag items_behind items_from
kept_plain scripts plain true = plain
kept_plain scripts plain false = All-nil IsPlainScript

-- the scripts behind the second cryptogram change nothing of the outcome
behind_ends : (image : ImageData) (ending : Ending) → IsDecided ending → (scripts : List (List ℕ)) (steps_done : List StepResult) (now : Now) (log : List Logged)
    → Ends image now (scripts_behind ending scripts steps_done log)
unfolding scripts_behind
behind_ends image ending decided [] steps_done now log = over ending refl decided
behind_ends image ending decided (template ∷ others) steps_done now log =
    chain (left_script ending others steps_done) step.Script steps_done (λ result. scripts_behind ending others (step_result.HasRunBehind result ∷ steps_done))
    step.Script (template_ran template) (any_runs image now template)
    (λ at result post log. behind_ends image ending decided others (step_result.HasRunBehind result ∷ steps_done) at log) log

module _ (image : ImageData) (back : AnswersAreReadBack) (a : AppData) (app : ℕ) (own : slice_get image.apps app ≡ Some a) (transaction : TransactionData) (lists : HasLists a transaction.card) where
  second_ends : (outcome : OnlineOutcome) (asked : Kind) (behind : List (List ℕ)) (steps_done : List StepResult) (now : Now) (log : List Logged) → is_arqc asked ≡ false → IsOnline image app now
      → Ends image now (second transaction outcome asked behind steps_done log)
  unfolding second
  second_ends outcome asked behind steps_done now log offline at =
      chain (cut_off steps_done) step.Second steps_done (λ (ac : AcData). scripts_behind (decision outcome ac.kind) behind (step_result.HasSecond ac ∷ steps_done))
      step.Second (generated 0x8D asked generate.Second (list_data 0x8D transaction.card (objects_at transaction steps_done))) (second_runs image back a app now asked transaction.card (objects_at transaction steps_done) own lists at offline)
      (λ at ac post log. behind_ends image (decision outcome ac.kind) (is_decision outcome ac.kind) behind (step_result.HasSecond ac ∷ steps_done) at log) log

  before_ends : (reply : ReplyData) (scripts : List (List ℕ)) (steps_done : List StepResult) (now : Now) (log : List Logged) → All IsPlainScript scripts → IsOnline image app now
      → Ends image now (scripts_before transaction reply scripts steps_done log)
  unfolding scripts_before
  before_ends reply [] steps_done now log plain at = second_ends Replied (kind_for reply.code) (templates_of_tag 0x72 reply.scripts) steps_done now log (reply_offline reply.code) at
  before_ends reply (template ∷ others) steps_done now log plain at =
      chain (cut_off steps_done) step.Script steps_done (λ result. scripts_before transaction reply others (step_result.HasRunBefore result ∷ steps_done))
      step.Script (template_ran template) (plain_runs image app now template (All-head IsPlainScript template others plain) at)
      (λ later result still log. before_ends reply others (step_result.HasRunBefore result ∷ steps_done) later log (All-tail IsPlainScript template others plain) still) log

  authentication_ends : (reply : ReplyData) (steps_done : List StepResult) (has : Bool) (value : Option (List ℕ)) (now : Now) (log : List Logged) → All IsPlainScript (templates_of_tag 0x71 reply.scripts) → IsOnline image app now
      → Ends image now (authentication_by transaction reply steps_done has value log)
  authentication_ends reply steps_done has None now log plain at = before_ends reply (templates_of_tag 0x71 reply.scripts) steps_done now log plain at
  authentication_ends reply steps_done false (Some value) now log plain at = before_ends reply (templates_of_tag 0x71 reply.scripts) steps_done now log plain at
  authentication_ends reply steps_done true (Some value) now log plain at =
      chain (cut_off steps_done) step.Authenticate steps_done (λ good. issuer_scripts transaction reply (step_result.HasAuthenticated good ∷ steps_done))
      step.Authenticate (authentication_step value) (authenticate_runs image app now value at)
      (λ later good still log. before_ends reply (templates_of_tag 0x71 reply.scripts) (step_result.HasAuthenticated good ∷ steps_done) later log plain still) log

  unable_ends : (request : OnlineRequest) (steps_done : List StepResult) (now : Now) (log : List Logged) → IsOnline image app now → Ends image now (unable_online transaction request steps_done log)
  unfolding unable_online
  unable_ends request steps_done now log at =
      second_ends Unable (kind_unable transaction steps_done) [] (step_result.WasUnable request (kind_unable transaction steps_done) ∷ steps_done) now log
      (unable_offline (state_so_far steps_done).tvr (codes_of transaction.card transaction.row) transaction.outset.settings.kind) at

  read_ends : (steps_done : List StepResult) (r : Result ReplyData MessageFault) (now : Now) (log : List Logged) → IsPlainReply r → IsOnline image app now → Ends image now (reply_read transaction steps_done r log)
  unfolding issuer_authentication
  read_ends steps_done (Err fault) now log plain at = unable_ends Sent steps_done now log at
  read_ends steps_done (Ok reply) now log plain at =
      authentication_ends (kept_host_reply reply) (step_result.HasReply reply ∷ steps_done) (has_authentication transaction.card) reply.auth now log
      (kept_plain reply.scripts plain (has_few_scripts (items_of reply.scripts))) at

  replied_ends : (steps_done : List StepResult) (reply : Option (List ℕ)) (now : Now) (log : List Logged) → IsLinked reply → IsOnline image app now → Ends image now (replied transaction steps_done reply log)
  replied_ends steps_done None now log linked at = unable_ends Sent steps_done now log at
  replied_ends steps_done (Some reply) now log linked at = read_ends steps_done (reply_of reply) now log linked at

  -- the host's reply is taken
  heard : (steps_done : List StepResult) (message : List ℕ) (now : Now) (log : List Logged) (reply : Option (List ℕ)) → IsLinked reply → IsOnline image app now
      → Ends image now (λ later. host_step steps_done message (replied transaction steps_done) log (from_host reply ∷ later))
  unfolding host_step
  heard steps_done message now log None linked at = replied_ends steps_done None now log linked at
  heard steps_done message now log (Some reply) linked at = replied_ends steps_done (Some reply) now log linked at

  sent_ends : (steps_done : List StepResult) (message : List ℕ) (now : Now) (log : List Logged) → IsOnline image app now → Ends image now (host_step steps_done message (replied transaction steps_done) log)
  unfolding host_step
  sent_ends steps_done message now log at = sends message refl (λ reply linked. heard steps_done message now log reply linked at)

  online_ends : (ac : AcData) (steps_done : List StepResult) (now : Now) (log : List Logged) → IsOnline image app now → Ends image now (online transaction ac steps_done log)
  online_ends ac steps_done now log at = by (is_offline_only transaction.outset.settings.kind)
    where
      message : List ℕ
      message = request_of transaction.card (objects_at transaction steps_done) transaction.outset.settings ac (state_so_far steps_done).pin

      by : (only : Bool) → Ends image now ((if only then unable_online transaction NotSent steps_done else host_step steps_done message (replied transaction steps_done)) log)
      by true = unable_ends NotSent steps_done now log at
      by false = sent_ends steps_done message now log at

  answered_ends : (ac : AcData) (steps_done : List StepResult) (kind : Kind) (now : Now) (log : List Logged) → (kind ≡ Arqc → IsOnline image app now) → Ends image now (first_answered transaction ac steps_done kind log)
  answered_ends ac steps_done Tc now log waits = over (Approved false) refl tt
  answered_ends ac steps_done Aac now log waits = over (Declined false) refl tt
  answered_ends ac steps_done Arqc now log waits = online_ends ac steps_done now log (waits refl)

  first_ends : (asked : Kind) (steps_done : List StepResult) (now : Now) (log : List Logged) → phase_at image now ≡ Started app → Ends image now (first transaction asked steps_done log)
  unfolding first
  first_ends asked steps_done now log here =
      chain (cut_off steps_done) step.First steps_done (λ (ac : AcData). first_answered transaction ac (step_result.HasFirst ac ∷ steps_done) ac.kind)
      step.First (generated 0x8C asked generate.First (list_data 0x8C transaction.card (objects_at transaction steps_done))) (first_runs image back a app now asked transaction.card (objects_at transaction steps_done) own lists here)
      (λ at ac waits log. answered_ends ac (step_result.HasFirst ac ∷ steps_done) ac.kind at log waits) log

-- from action analysis on
pub analysis_ends : (image : ImageData) → AnswersAreReadBack → AnalysisEnds image
unfolding analysis
analysis_ends image back = λ a app now transaction steps_done log own lists here.
    first_ends image back a app own transaction lists (kind_wanted transaction steps_done) (step_result.HasAnalysed (analysed_by transaction.row (kind_wanted transaction steps_done)) ∷ steps_done) now log here
