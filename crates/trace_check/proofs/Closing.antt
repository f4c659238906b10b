-- Every dialogue can be brought to its end: by a card that is gone, behind a host that doesn't reply.
use Rattle.std.proofs.Common.{◌≡◌, ℕ, Bool, true, false, List, [], ◌∷◌, ◌++◌, Option, Some, None, Result, Ok, Err, refl, subst, sym, if◌then◌else◌}
use Rattle.app_select.specs.Candidates.{CandidateData}
use Rattle.app_select.specs.Selecting.{SelectedData, selecting}
use Rattle.auth_message.specs.Reply.{ReplyData, reply_of}
use Rattle.auth_message.specs.declared.fault.MessageFault.{MessageFault}
use Rattle.emv_dict.specs.Progress.{Progress, Wants, Stopped, Done}
use Rattle.emv_dict.specs.Views.{AcData}
use Rattle.emv_dict.specs.declared.ending.Ending.{Ending}
use Rattle.emv_dict.specs.declared.ending.Ending.TheVariants.{CutOff}
use Rattle.emv_dict.specs.declared.ending.Kind.{Kind}
use Rattle.emv_dict.specs.declared.ending.Kind.TheVariants.{Tc, Aac, Arqc}
use Rattle.emv_dict.specs.declared.ending.Step.{Step}
use Rattle.emv_dict.specs.declared.ending.Step.TheVariants as step
use Rattle.emv_dict.specs.declared.judged.Judged.{Judged}
use Rattle.emv_dict.specs.declared.purchase.AidRow.{AidRow}
use Rattle.emv_dict.specs.declared.purchase.Logged.{Logged}
use Rattle.kernel.specs.StepsInTurn.{Standing, Rest, stands, over, by_progress, then_step, card_step, cut_off, host_step}
use Rattle.kernel.specs.Dialogue.{TransactionData, all_failed, left_script, scripts_behind, second, scripts_before, issuer_authentication, authentication_by, has_authentication, unable_online, kind_unable, reply_read, replied, is_offline_only, first_answered, first, analysis, risk, verification, restrictions, read, granted, initiation, initiation_or, candidates_left, dialogue, decision, kind_for, kind_wanted}
use Rattle.kernel.specs.Laws.{asks_host}
use Rattle.kernel.specs.Reply.{Reply, CardSaid, CardGone, HostSaid, HostSilent, Deed, ToCard, ToHost, Over}
use Rattle.kernel.specs.declared.stage.OnlineOutcome.{OnlineOutcome}
use Rattle.kernel.specs.declared.stage.OnlineOutcome.TheVariants.{Replied, Unable}
use Rattle.online_step.specs.Authenticate.{authentication_step}
use Rattle.read_records.specs.Options.{Opened}
use Rattle.script_run.specs.Ran.{template_ran}
use Rattle.terminal_state.specs.StepResults.{StepResult, HasVerified, HasJudged, HasAnalysed, HasFirst, HasReply, WasUnable, HasAuthenticated, HasRunBefore, HasSecond, HasRunBehind, analysed_by}
use Rattle.terminal_state.specs.Scripts.{templates_of_tag, kept_host_reply}
use Rattle.terminal_state.specs.Terminal.{Outset}
use Rattle.terminal_state.specs.declared.state_so_far.OnlineRequest.{OnlineRequest}
use Rattle.terminal_state.specs.declared.state_so_far.OnlineRequest.TheVariants.{Sent, NotSent}
use Rattle.trace_check.specs.Dialogues.{is_awaited}

-- each reply came where one of its side was awaited
abbrev pub Heard : (List Reply → Deed) → List Reply → Type 0
Heard deed [] = Unit {0}
Heard deed (reply ∷ replies) = (is_awaited (deed []) reply ≡ true) × Heard (λ later. deed (reply ∷ later)) replies

-- one reply more
pub heard_more : (deed : List Reply → Deed) (replies : List Reply) (reply : Reply) → Heard deed replies → is_awaited (deed replies) reply ≡ true
    → Heard deed (replies ++ reply ∷ [])
heard_more deed [] reply heard awaited = (awaited, tt)
heard_more deed (first ∷ replies) reply heard awaited = (heard.0, heard_more (λ later. deed (first ∷ later)) replies reply heard.1 awaited)

-- what a dialogue does next, and does where the card is gone and where the host is silent instead
abbrev pub Closed : Deed → Deed → Deed → Type 0
Closed (ToCard command) gone silent = (ending : Ending) × (gone ≡ Over ending)
Closed (ToHost message) gone silent = asks_host silent ≡ false
Closed (Over ending) gone silent = Unit {0}

abbrev Closes : Rest StepResult → Type 0
Closes rest =
    (log : List Logged) (replies : List Reply) → Heard (λ later. (rest log later).deed) replies
    → Closed (rest log replies).deed (rest log (replies ++ CardGone ∷ [])).deed (rest log (replies ++ HostSilent ∷ [])).deed

-- it begins with no message for the host
abbrev Quiet : Rest StepResult → Type 0
Quiet rest = (log : List Logged) → asks_host (rest log []).deed ≡ false

over_closed : (deed gone silent : Deed) (ending : Ending) → deed ≡ Over ending → Closed deed gone silent
over_closed deed gone silent ending is = subst (λ (d : Deed). Closed d gone silent) (sym is) tt

over_closes : (steps_done : List StepResult) (ending : Ending) → Closes (over steps_done ending)
over_closes steps_done ending log replies heard = tt

module _ {A : Type 0} (left : Step → (List (List ℕ) → Progress A) → Standing StepResult) (step : Step) (steps_done : List StepResult) (next : A → Rest StepResult)
    (leaves : (cut : Step) (course : List (List ℕ) → Progress A) → (ending : Ending) × ((left cut course).deed ≡ Over ending))
    (keeps : (value : A) → Closes (next value)) where
  none_by : (log : List Logged) (gone : Standing StepResult) → (ending : Ending) × (gone.deed ≡ Over ending) → (progress : Progress A)
      → Closed (then_step step steps_done next log [] (λ command. stands steps_done (ToCard command)) progress).deed
      (then_step step steps_done next log (CardGone ∷ []) (λ command. gone) progress).deed
      (then_step step steps_done next log (HostSilent ∷ []) (λ command. stands steps_done (ToCard command)) progress).deed
  none_by log gone ends (Wants command) = ends
  none_by log gone ends (Stopped cause) = tt
  none_by log gone ends (Done value rest) = keeps value log [] tt

  more_by : (log : List Logged) (reply : Reply) (replies : List Reply) (wanted : List ℕ → List Reply → Standing StepResult)
      → ((command : List ℕ) → is_awaited (ToCard command) reply ≡ true → Heard (λ later. (wanted command later).deed) replies
      → Closed (wanted command replies).deed (wanted command (replies ++ CardGone ∷ [])).deed (wanted command (replies ++ HostSilent ∷ [])).deed)
      → (progress : Progress A) → is_awaited (then_step step steps_done next log [] (λ command. stands steps_done (ToCard command)) progress).deed reply ≡ true
      → Heard (λ later. (then_step step steps_done next log (reply ∷ later) (λ command. wanted command later) progress).deed) replies
      → Closed (then_step step steps_done next log (reply ∷ replies) (λ command. wanted command replies) progress).deed
      (then_step step steps_done next log (reply ∷ (replies ++ CardGone ∷ [])) (λ command. wanted command (replies ++ CardGone ∷ [])) progress).deed
      (then_step step steps_done next log (reply ∷ (replies ++ HostSilent ∷ [])) (λ command. wanted command (replies ++ HostSilent ∷ [])) progress).deed
  more_by log reply replies wanted wants (Wants command) awaited heard = wants command awaited heard
  more_by log reply replies wanted wants (Stopped cause) awaited heard = tt
  more_by log reply replies wanted wants (Done value rest) awaited heard = keeps value log (reply ∷ replies) (awaited, heard)

  card_closes : (cut : Step) (course : List (List ℕ) → Progress A) → Closes (card_step left cut step steps_done course next)
  unfolding card_step
  card_closes cut course log [] heard = none_by log (left cut course) (leaves cut course) (course [])
  card_closes cut course log (CardSaid answer now ∷ replies) heard =
      more_by log (CardSaid answer now) replies (λ command later. card_step left step step steps_done (λ behind. course (answer ∷ behind)) next now later)
      (λ command awaited. card_closes step (λ behind. course (answer ∷ behind)) now replies) (course []) heard.0 heard.1
  card_closes cut course log (CardGone ∷ replies) heard =
      more_by log CardGone replies (λ command later. left cut course)
      (λ command awaited told. over_closed _ _ _ (leaves cut course).0 (leaves cut course).1) (course []) heard.0 heard.1
  card_closes cut course log (HostSaid said ∷ replies) heard =
      more_by log (HostSaid said) replies (λ command later. stands steps_done (ToCard command)) (λ command awaited. absurd (cc awaited)) (course []) heard.0 heard.1
  card_closes cut course log (HostSilent ∷ replies) heard =
      more_by log HostSilent replies (λ command later. stands steps_done (ToCard command)) (λ command awaited. absurd (cc awaited)) (course []) heard.0 heard.1

module _ {A : Type 0} (left : Step → (List (List ℕ) → Progress A) → Standing StepResult) (step : Step) (steps_done : List StepResult) (next : A → Rest StepResult)
    (quiet : (value : A) → Quiet (next value)) where
  quiet_by : (log : List Logged) (progress : Progress A)
      → asks_host (then_step step steps_done next log [] (λ command. stands steps_done (ToCard command)) progress).deed ≡ false
  quiet_by log (Wants command) = refl
  quiet_by log (Stopped cause) = refl
  quiet_by log (Done value rest) = quiet value log

  card_quiet : (cut : Step) (course : List (List ℕ) → Progress A) → Quiet (card_step left cut step steps_done course next)
  unfolding card_step
  card_quiet cut course log = quiet_by log (course [])

host_closes : (steps_done : List StepResult) (message : List ℕ) (next : Option (List ℕ) → Rest StepResult) → Quiet (next None) → ((said : Option (List ℕ)) → Closes (next said))
    → Closes (host_step steps_done message next)
unfolding host_step
host_closes steps_done message next quiet keeps log [] heard = quiet log
host_closes steps_done message next quiet keeps log (CardSaid answer now ∷ replies) heard = absurd (cc heard.0)
host_closes steps_done message next quiet keeps log (CardGone ∷ replies) heard = absurd (cc heard.0)
host_closes steps_done message next quiet keeps log (HostSaid said ∷ replies) heard = keeps (Some said) log replies heard.1
host_closes steps_done message next quiet keeps log (HostSilent ∷ replies) heard = keeps None log replies heard.1

cut_leaves : {A : Type 0} (steps_done : List StepResult) (cut : Step) (course : List (List ℕ) → Progress A) → (ending : Ending) × ((cut_off steps_done cut course).deed ≡ Over ending)
cut_leaves steps_done cut course = (CutOff cut, refl)

script_leaves : (ending : Ending) (others : List (List ℕ)) (steps_done : List StepResult) (progress : Progress (List ℕ))
    → (last : Ending) × ((by_progress (λ command. stands steps_done (Over ending)) (λ cause. stands steps_done (Over ending)) (λ result. stands (all_failed others (HasRunBehind result ∷ steps_done)) (Over ending)) progress).deed ≡ Over last)
script_leaves ending others steps_done (Wants command) = (ending, refl)
script_leaves ending others steps_done (Stopped cause) = (ending, refl)
script_leaves ending others steps_done (Done result rest) = (ending, refl)

scripts_behind_close : (ending : Ending) (scripts : List (List ℕ)) (steps_done : List StepResult) → Closes (scripts_behind ending scripts steps_done)
unfolding scripts_behind
scripts_behind_close ending [] steps_done = over_closes steps_done ending
scripts_behind_close ending (template ∷ others) steps_done =
    card_closes (left_script ending others steps_done) step.Script steps_done (λ result. scripts_behind ending others (HasRunBehind result ∷ steps_done))
    (λ cut course. script_leaves ending others steps_done (course ([] ∷ [])))
    (λ result. scripts_behind_close ending others (HasRunBehind result ∷ steps_done)) step.Script (template_ran template)

scripts_behind_quiet : (ending : Ending) (scripts : List (List ℕ)) (steps_done : List StepResult) → Quiet (scripts_behind ending scripts steps_done)
unfolding scripts_behind
scripts_behind_quiet ending [] steps_done log = refl
scripts_behind_quiet ending (template ∷ others) steps_done log =
    card_quiet (left_script ending others steps_done) step.Script steps_done (λ result. scripts_behind ending others (HasRunBehind result ∷ steps_done))
    (λ result. scripts_behind_quiet ending others (HasRunBehind result ∷ steps_done)) step.Script (template_ran template) log

second_closes : (transaction : TransactionData) (outcome : OnlineOutcome) (asked : Kind) (behind : List (List ℕ)) (steps_done : List StepResult) → Closes (second transaction outcome asked behind steps_done)
unfolding second
second_closes transaction outcome asked behind steps_done =
    card_closes (cut_off steps_done) step.Second steps_done (λ ac. scripts_behind (decision outcome ac.kind) behind (HasSecond ac ∷ steps_done)) (cut_leaves steps_done)
    (λ ac. scripts_behind_close (decision outcome ac.kind) behind (HasSecond ac ∷ steps_done)) step.Second _

second_quiet : (transaction : TransactionData) (outcome : OnlineOutcome) (asked : Kind) (behind : List (List ℕ)) (steps_done : List StepResult) → Quiet (second transaction outcome asked behind steps_done)
unfolding second
second_quiet transaction outcome asked behind steps_done =
    card_quiet (cut_off steps_done) step.Second steps_done (λ ac. scripts_behind (decision outcome ac.kind) behind (HasSecond ac ∷ steps_done))
    (λ ac. scripts_behind_quiet (decision outcome ac.kind) behind (HasSecond ac ∷ steps_done)) step.Second _

scripts_before_close : (transaction : TransactionData) (reply : ReplyData) (scripts : List (List ℕ)) (steps_done : List StepResult) → Closes (scripts_before transaction reply scripts steps_done)
unfolding scripts_before
scripts_before_close transaction reply [] steps_done = second_closes transaction Replied (kind_for reply.code) (templates_of_tag 0x72 reply.scripts) steps_done
scripts_before_close transaction reply (template ∷ others) steps_done =
    card_closes (cut_off steps_done) step.Script steps_done (λ result. scripts_before transaction reply others (HasRunBefore result ∷ steps_done)) (cut_leaves steps_done)
    (λ result. scripts_before_close transaction reply others (HasRunBefore result ∷ steps_done)) step.Script (template_ran template)

authentication_by_closes : (transaction : TransactionData) (reply : ReplyData) (steps_done : List StepResult) (has : Bool) (auth : Option (List ℕ)) → Closes (authentication_by transaction reply steps_done has auth)
authentication_by_closes transaction reply steps_done has None = scripts_before_close transaction reply (templates_of_tag 0x71 reply.scripts) steps_done
authentication_by_closes transaction reply steps_done false (Some value) = scripts_before_close transaction reply (templates_of_tag 0x71 reply.scripts) steps_done
authentication_by_closes transaction reply steps_done true (Some value) =
    card_closes (cut_off steps_done) step.Authenticate steps_done (λ good. scripts_before transaction reply (templates_of_tag 0x71 reply.scripts) (HasAuthenticated good ∷ steps_done)) (cut_leaves steps_done)
    (λ good. scripts_before_close transaction reply (templates_of_tag 0x71 reply.scripts) (HasAuthenticated good ∷ steps_done)) step.Authenticate (authentication_step value)

authentication_closes : (transaction : TransactionData) (reply : ReplyData) (steps_done : List StepResult) → Closes (issuer_authentication transaction reply steps_done)
unfolding issuer_authentication
authentication_closes transaction reply steps_done = authentication_by_closes transaction reply steps_done (has_authentication transaction.card) reply.auth

unable_closes : (transaction : TransactionData) (request : OnlineRequest) (steps_done : List StepResult) → Closes (unable_online transaction request steps_done)
unfolding unable_online
unable_closes transaction request steps_done = second_closes transaction Unable (kind_unable transaction steps_done) [] (WasUnable request (kind_unable transaction steps_done) ∷ steps_done)

unable_quiet : (transaction : TransactionData) (request : OnlineRequest) (steps_done : List StepResult) → Quiet (unable_online transaction request steps_done)
unfolding unable_online
unable_quiet transaction request steps_done = second_quiet transaction Unable (kind_unable transaction steps_done) [] (WasUnable request (kind_unable transaction steps_done) ∷ steps_done)

read_closes : (transaction : TransactionData) (steps_done : List StepResult) (said : Result ReplyData MessageFault) → Closes (reply_read transaction steps_done said)
read_closes transaction steps_done (Ok reply) = authentication_closes transaction (kept_host_reply reply) (HasReply reply ∷ steps_done)
read_closes transaction steps_done (Err fault) = unable_closes transaction Sent steps_done

replied_closes : (transaction : TransactionData) (steps_done : List StepResult) (said : Option (List ℕ)) → Closes (replied transaction steps_done said)
replied_closes transaction steps_done None = unable_closes transaction Sent steps_done
replied_closes transaction steps_done (Some said) = read_closes transaction steps_done (reply_of said)

online_by_closes : (transaction : TransactionData) (steps_done : List StepResult) (message : List ℕ) (test : Bool)
    → Closes (let rest : Rest StepResult = (if test then unable_online transaction NotSent steps_done else host_step steps_done message (replied transaction steps_done)) in rest)
online_by_closes transaction steps_done message true = unable_closes transaction NotSent steps_done
online_by_closes transaction steps_done message false = host_closes steps_done message (replied transaction steps_done) (unable_quiet transaction Sent steps_done) (replied_closes transaction steps_done)

first_answered_closes : (transaction : TransactionData) (ac : AcData) (steps_done : List StepResult) (kind : Kind) → Closes (first_answered transaction ac steps_done kind)
first_answered_closes transaction ac steps_done Tc = over_closes steps_done _
first_answered_closes transaction ac steps_done Aac = over_closes steps_done _
first_answered_closes transaction ac steps_done Arqc = online_by_closes transaction steps_done _ (is_offline_only transaction.outset.settings.kind)

first_closes : (transaction : TransactionData) (asked : Kind) (steps_done : List StepResult) → Closes (first transaction asked steps_done)
unfolding first
first_closes transaction asked steps_done =
    card_closes (cut_off steps_done) step.First steps_done (λ ac. first_answered transaction ac (HasFirst ac ∷ steps_done) ac.kind) (cut_leaves steps_done)
    (λ ac. first_answered_closes transaction ac (HasFirst ac ∷ steps_done) ac.kind) step.First _

analysis_closes : (transaction : TransactionData) (steps_done : List StepResult) → Closes (analysis transaction steps_done)
unfolding analysis
analysis_closes transaction steps_done = first_closes transaction (kind_wanted transaction steps_done) (HasAnalysed (analysed_by transaction.row (kind_wanted transaction steps_done)) ∷ steps_done)

risk_at : (transaction : TransactionData) (steps_done : List StepResult) (course : List (List ℕ) → Progress Judged)
    → Closes (card_step (cut_off steps_done) step.Risk step.Risk steps_done course (λ judged. analysis transaction (HasJudged judged ∷ steps_done)))
risk_at transaction steps_done course =
    card_closes (cut_off steps_done) step.Risk steps_done (λ judged. analysis transaction (HasJudged judged ∷ steps_done)) (cut_leaves steps_done)
    (λ judged. analysis_closes transaction (HasJudged judged ∷ steps_done)) step.Risk course

risk_closes : (transaction : TransactionData) (steps_done : List StepResult) → Closes (risk transaction steps_done)
unfolding risk
risk_closes transaction steps_done log replies heard = risk_at transaction steps_done _ log replies heard

verification_closes : (transaction : TransactionData) (steps_done : List StepResult) → Closes (verification transaction steps_done)
unfolding verification
verification_closes transaction steps_done =
    card_closes (cut_off steps_done) step.Verify steps_done (λ verified. risk transaction (HasVerified verified ∷ steps_done)) (cut_leaves steps_done)
    (λ verified. risk_closes transaction (HasVerified verified ∷ steps_done)) step.Verify _

restrictions_close : (transaction : TransactionData) → Closes (restrictions transaction)
unfolding restrictions
restrictions_close transaction = verification_closes transaction _

reading_closes : (outset : Outset) (row : AidRow) (at : Opened) → Closes (read outset row at)
unfolding read
reading_closes outset row at =
    card_closes (cut_off []) step.Read [] (λ card. restrictions (record { outset = outset; row = row; card = card })) (cut_leaves [])
    (λ card. restrictions_close (record { outset = outset; row = row; card = card })) step.Read _

granted_closes : (outset : Outset) (row : AidRow) (others : Rest StepResult) → Closes others → (at : Option Opened) → Closes (granted outset row others at)
granted_closes outset row others close None = close
granted_closes outset row others close (Some at) = reading_closes outset row at

initiation_closes : (outset : Outset) (selected : SelectedData) (others : Rest StepResult) → Closes others → Closes (initiation outset selected others)
unfolding initiation
initiation_closes outset selected others close =
    card_closes (cut_off []) step.Initiate [] (granted outset selected.row others) (cut_leaves []) (granted_closes outset selected.row others close) step.Initiate _

opened_closes : (outset : Outset) (others : Rest StepResult) → Closes others → (selected : Option SelectedData) → Closes (initiation_or outset others selected)
opened_closes outset others close None = close
opened_closes outset others close (Some selected) = initiation_closes outset selected others close

candidates_close : (outset : Outset) (candidates : List CandidateData) → Closes (candidates_left outset candidates)
unfolding candidates_left
candidates_close outset [] = over_closes [] _
candidates_close outset (candidate ∷ left) =
    card_closes (cut_off []) step.Select [] (initiation_or outset (candidates_left outset left)) (cut_leaves [])
    (opened_closes outset (candidates_left outset left) (candidates_close outset left)) step.Select _

pub dialogue_closes : (outset : Outset) (replies : List Reply) → Heard (λ later. (dialogue outset later).deed) replies
    → Closed (dialogue outset replies).deed (dialogue outset (replies ++ CardGone ∷ [])).deed (dialogue outset (replies ++ HostSilent ∷ [])).deed
unfolding dialogue
dialogue_closes outset replies heard =
    card_closes (cut_off []) step.Select [] (λ selected. initiation outset selected (candidates_left outset selected.left)) (cut_leaves [])
    (λ selected. initiation_closes outset selected (candidates_left outset selected.left) (candidates_close outset selected.left))
    step.Power _ [] replies heard
