-- What a dialogue has read of a card has no value longer than an answer.
use Rattle.std.proofs.Common.{◌≡◌, ℕ, Bool, true, false, if◌then◌else◌, List, [], ◌∷◌, Option, Some, None, Result, Ok, Err, refl}
use Rattle.std.specs.Prelude.{⊤, IfSome}
use Rattle.std.specs.List.{AllByRecursion}
use Rattle.app_select.specs.Candidates.{CandidateData}
use Rattle.app_select.specs.Selecting.{SelectedData, final}
use Rattle.auth_message.specs.Reply.{ReplyData, reply_of}
use Rattle.auth_message.specs.declared.fault.MessageFault.{MessageFault}
use Rattle.cvm_list.specs.Begun.{cvm}
use Rattle.emv_dict.specs.Progress.{Progress, Wants, Stopped, Done}
use Rattle.emv_dict.specs.Views.{AcData}
use Rattle.emv_dict.specs.declared.ending.Ending.{Ending}
use Rattle.emv_dict.specs.declared.ending.Kind.{Kind}
use Rattle.emv_dict.specs.declared.ending.Kind.TheVariants.{Aac, Tc, Arqc}
use Rattle.emv_dict.specs.declared.ending.Step.{Step}
use Rattle.emv_dict.specs.declared.ending.Step.TheVariants as step
use Rattle.emv_dict.specs.declared.purchase.AidRow.{AidRow}
use Rattle.emv_dict.specs.declared.purchase.Logged.{Logged}
use Rattle.emv_top.proofs.RecordsShort.{BeginsShort, reading_short, initiating_short}
use Rattle.emv_top.specs.Short.{AllShort, HasShortObjects}
use Rattle.kernel.specs.StepsInTurn.{Standing, Rest, stands, by_progress, then_step, card_step, cut_off, host_step}
use Rattle.kernel.specs.Dialogue.{TransactionData, objects_at, decision, all_failed, left_script, scripts_behind, second, kind_for, scripts_before, issuer_scripts, has_authentication, authentication_by, issuer_authentication, kind_unable, unable_online, reply_read, replied, is_offline_only, online, first_answered, first, kind_wanted, analysis, risk, verification, restrictions, read, granted, initiation, initiation_or, candidates_left, dialogue}
use Rattle.kernel.specs.Reply.{Reply, CardSaid, CardGone, HostSaid, HostSilent, ToCard, Over}
use Rattle.kernel.specs.declared.stage.OnlineOutcome.{OnlineOutcome}
use Rattle.kernel.specs.declared.stage.OnlineOutcome.TheVariants.{Replied, Unable}
use Rattle.online_step.specs.Authenticate.{authentication_step}
use Rattle.online_step.specs.Generate.{generated, list_data}
use Rattle.online_step.specs.Request.{request_of}
use Rattle.online_step.specs.declared.ac.GenerateAc.TheVariants as generate
use Rattle.pse_directory.specs.Directory.{selecting_by}
use Rattle.read_records.specs.DataRead.{reading}
use Rattle.read_records.specs.Options.{Opened, initiating}
use Rattle.restrictions.specs.Restricted.{restricted}
use Rattle.risk_mgmt.specs.Risky.{risky}
use Rattle.script_run.specs.Ran.{template_ran, no_script}
use Rattle.terminal_state.specs.StepResults as step_result
use Rattle.terminal_state.specs.StepResults.{StepResult, analysed_by, state_so_far, latest, sets_card}
use Rattle.terminal_state.specs.Scripts.{templates_of_tag, kept_host_reply}
use Rattle.terminal_state.specs.Terminal.{Outset, terminal_objects}
use Rattle.terminal_state.specs.declared.state_so_far.OnlineRequest.{OnlineRequest}
use Rattle.terminal_state.specs.declared.state_so_far.OnlineRequest.TheVariants.{Sent, NotSent}

abbrev pub IsShortResult : StepResult → Type 0
IsShortResult (step_result.HasRead card) = HasShortObjects card
IsShortResult other = ⊤

abbrev pub AreShort : List StepResult → Type 0
AreShort steps_done = AllByRecursion IsShortResult steps_done

-- the card among such results
pub latest_short : (steps_done : List StepResult) → AreShort steps_done → IfSome (latest sets_card None steps_done) HasShortObjects
latest_short [] short = tt
latest_short (step_result.HasRead card ∷ steps_done) short = short.0
latest_short (step_result.HasRestricted bits ∷ steps_done) short = latest_short steps_done short.1
latest_short (step_result.HasVerified verified ∷ steps_done) short = latest_short steps_done short.1
latest_short (step_result.HasJudged judged ∷ steps_done) short = latest_short steps_done short.1
latest_short (step_result.HasAnalysed analysed ∷ steps_done) short = latest_short steps_done short.1
latest_short (step_result.HasFirst ac ∷ steps_done) short = latest_short steps_done short.1
latest_short (step_result.HasReply reply ∷ steps_done) short = latest_short steps_done short.1
latest_short (step_result.WasUnable request wanted ∷ steps_done) short = latest_short steps_done short.1
latest_short (step_result.HasAuthenticated good ∷ steps_done) short = latest_short steps_done short.1
latest_short (step_result.HasRunBefore result ∷ steps_done) short = latest_short steps_done short.1
latest_short (step_result.HasSecond ac ∷ steps_done) short = latest_short steps_done short.1
latest_short (step_result.HasRunBehind result ∷ steps_done) short = latest_short steps_done short.1

-- a rest of a dialogue that keeps to such results
abbrev pub Keeps : Rest StepResult → Type 0
Keeps rest = (log : List Logged) (replies : List Reply) → AreShort (rest log replies).steps_done

-- each value that a step gives is such
abbrev pub Gives : {A : Type 0} → (List (List ℕ) → Progress A) → (A → Type 0) → Type 0
Gives {A} course Q = (answers : List (List ℕ)) (value : A) (left : List (List ℕ)) → course answers ≡ Done value left → Q value

module _ {A : Type 0} (Q : A → Type 0) (step : Step) (steps_done : List StepResult) (short : AreShort steps_done) (next : A → Rest StepResult) (keeps : (value : A) → Q value → Keeps (next value)) where
  settled_short : (log : List Logged) (replies : List Reply) (wanted : List ℕ → Standing StepResult) (progress : Progress A)
      → ((command : List ℕ) → AreShort (wanted command).steps_done) → ((value : A) (left : List (List ℕ)) → progress ≡ Done value left → Q value)
      → AreShort (then_step step steps_done next log replies wanted progress).steps_done
  settled_short log replies wanted (Wants command) asks gives = asks command
  settled_short log replies wanted (Stopped because) asks gives = short
  settled_short log replies wanted (Done value left) asks gives = keeps value (gives value left refl) log replies

card_step-short : {A : Type 0} (Q : A → Type 0) (left : Step → (List (List ℕ) → Progress A) → Standing StepResult) (cut step : Step) (steps_done : List StepResult)
    (course : List (List ℕ) → Progress A) (next : A → Rest StepResult) → ((at : Step) (c : List (List ℕ) → Progress A) → AreShort (left at c).steps_done) → AreShort steps_done
    → Gives course Q → ((value : A) → Q value → Keeps (next value)) → Keeps (card_step left cut step steps_done course next)
unfolding card_step
card_step-short Q left cut step steps_done course next leaves short gives keeps log [] =
    settled_short Q step steps_done short next keeps log [] (λ command. stands steps_done (ToCard command)) (course []) (λ command. short) (gives [])
card_step-short Q left cut step steps_done course next leaves short gives keeps log (CardSaid answer now ∷ replies) =
    settled_short Q step steps_done short next keeps log (CardSaid answer now ∷ replies)
    (λ command. card_step left step step steps_done (λ later. course (answer ∷ later)) next now replies) (course [])
    (λ command. card_step-short Q left step step steps_done (λ later. course (answer ∷ later)) next leaves short (λ answers. gives (answer ∷ answers)) keeps now replies)
    (gives [])
card_step-short Q left cut step steps_done course next leaves short gives keeps log (CardGone ∷ replies) =
    settled_short Q step steps_done short next keeps log (CardGone ∷ replies) (λ command. left cut course) (course []) (λ command. leaves cut course) (gives [])
card_step-short Q left cut step steps_done course next leaves short gives keeps log (HostSaid reply ∷ replies) =
    settled_short Q step steps_done short next keeps log (HostSaid reply ∷ replies) (λ command. stands steps_done (ToCard command)) (course []) (λ command. short) (gives [])
card_step-short Q left cut step steps_done course next leaves short gives keeps log (HostSilent ∷ replies) =
    settled_short Q step steps_done short next keeps log (HostSilent ∷ replies) (λ command. stands steps_done (ToCard command)) (course []) (λ command. short) (gives [])

-- a step of whose value nothing is asked, which cuts the dialogue where the card is gone
step_short : {A : Type 0} (cut step : Step) (steps_done : List StepResult) (course : List (List ℕ) → Progress A) (next : A → Rest StepResult) → AreShort steps_done
    → ((value : A) → Keeps (next value)) → Keeps (card_step (cut_off steps_done) cut step steps_done course next)
step_short {A} cut step steps_done course next short keeps =
    card_step-short (λ (value : A). ⊤) (cut_off steps_done) cut step steps_done course next (λ at c. short) short (λ answers value left is. tt) (λ value any. keeps value)

host_step-short : (steps_done : List StepResult) (message : List ℕ) (next : Option (List ℕ) → Rest StepResult) → AreShort steps_done → ((reply : Option (List ℕ)) → Keeps (next reply))
    → Keeps (host_step steps_done message next)
unfolding host_step
host_step-short steps_done message next short keeps log [] = short
host_step-short steps_done message next short keeps log (CardSaid answer now ∷ replies) = short
host_step-short steps_done message next short keeps log (CardGone ∷ replies) = short
host_step-short steps_done message next short keeps log (HostSaid reply ∷ replies) = keeps (Some reply) log replies
host_step-short steps_done message next short keeps log (HostSilent ∷ replies) = keeps None log replies

all_failed-short : (others : List (List ℕ)) (steps_done : List StepResult) → AreShort steps_done → AreShort (all_failed others steps_done)
all_failed-short [] steps_done short = short
all_failed-short (template ∷ others) steps_done short = all_failed-short others (step_result.HasRunBehind no_script ∷ steps_done) (tt, short)

left_script-short : (ending : Ending) (others : List (List ℕ)) (steps_done : List StepResult) (at : Step) (course : List (List ℕ) → Progress (List ℕ)) → AreShort steps_done
    → AreShort (left_script ending others steps_done at course).steps_done
left_script-short ending others steps_done at course short = go (course ([] ∷ []))
  where
    go : (progress : Progress (List ℕ))
        → AreShort (by_progress (λ command. stands steps_done (Over ending)) (λ cause. stands steps_done (Over ending))
        (λ result. stands (all_failed others (step_result.HasRunBehind result ∷ steps_done)) (Over ending)) progress).steps_done
    go (Wants command) = short
    go (Stopped because) = short
    go (Done result left) = all_failed-short others (step_result.HasRunBehind result ∷ steps_done) (tt, short)

scripts_behind-short : (ending : Ending) (scripts : List (List ℕ)) (steps_done : List StepResult) → AreShort steps_done → Keeps (scripts_behind ending scripts steps_done)
unfolding scripts_behind
scripts_behind-short ending [] steps_done short = λ log replies. short
scripts_behind-short ending (template ∷ others) steps_done short =
    card_step-short (λ (result : List ℕ). ⊤) (left_script ending others steps_done) step.Script step.Script steps_done (template_ran template)
    (λ result. scripts_behind ending others (step_result.HasRunBehind result ∷ steps_done)) (λ at course. left_script-short ending others steps_done at course short) short
    (λ answers value left is. tt) (λ result any. scripts_behind-short ending others (step_result.HasRunBehind result ∷ steps_done) (tt, short))

module _ (transaction : TransactionData) where
  second_short : (outcome : OnlineOutcome) (asked : Kind) (behind : List (List ℕ)) (steps_done : List StepResult) → AreShort steps_done → Keeps (second transaction outcome asked behind steps_done)
  unfolding second
  second_short outcome asked behind steps_done short =
      step_short step.Second step.Second steps_done (generated 0x8D asked generate.Second (list_data 0x8D transaction.card (objects_at transaction steps_done)))
      (λ ac. scripts_behind (decision outcome ac.kind) behind (step_result.HasSecond ac ∷ steps_done)) short
      (λ ac. scripts_behind-short (decision outcome ac.kind) behind (step_result.HasSecond ac ∷ steps_done) (tt, short))

  scripts_before-short : (reply : ReplyData) (scripts : List (List ℕ)) (steps_done : List StepResult) → AreShort steps_done → Keeps (scripts_before transaction reply scripts steps_done)
  unfolding scripts_before
  scripts_before-short reply [] steps_done short = second_short Replied (kind_for reply.code) (templates_of_tag 0x72 reply.scripts) steps_done short
  scripts_before-short reply (template ∷ others) steps_done short =
      step_short step.Script step.Script steps_done (template_ran template) (λ result. scripts_before transaction reply others (step_result.HasRunBefore result ∷ steps_done)) short
      (λ result. scripts_before-short reply others (step_result.HasRunBefore result ∷ steps_done) (tt, short))

  authentication_by-short : (reply : ReplyData) (steps_done : List StepResult) (has : Bool) (auth : Option (List ℕ)) → AreShort steps_done → Keeps (authentication_by transaction reply steps_done has auth)
  authentication_by-short reply steps_done has None short = scripts_before-short reply (templates_of_tag 0x71 reply.scripts) steps_done short
  authentication_by-short reply steps_done true (Some value) short =
      step_short step.Authenticate step.Authenticate steps_done (authentication_step value) (λ good. issuer_scripts transaction reply (step_result.HasAuthenticated good ∷ steps_done)) short
      (λ good. scripts_before-short reply (templates_of_tag 0x71 reply.scripts) (step_result.HasAuthenticated good ∷ steps_done) (tt, short))
  authentication_by-short reply steps_done false (Some value) short = scripts_before-short reply (templates_of_tag 0x71 reply.scripts) steps_done short

  authentication_short : (reply : ReplyData) (steps_done : List StepResult) → AreShort steps_done → Keeps (issuer_authentication transaction reply steps_done)
  unfolding issuer_authentication
  authentication_short reply steps_done short = authentication_by-short reply steps_done (has_authentication transaction.card) reply.auth short

  unable_short : (request : OnlineRequest) (steps_done : List StepResult) → AreShort steps_done → Keeps (unable_online transaction request steps_done)
  unfolding unable_online
  unable_short request steps_done short = second_short Unable (kind_unable transaction steps_done) [] (step_result.WasUnable request (kind_unable transaction steps_done) ∷ steps_done) (tt, short)

  reply_short : (steps_done : List StepResult) (reply : Result ReplyData MessageFault) → AreShort steps_done → Keeps (reply_read transaction steps_done reply)
  reply_short steps_done (Ok reply) short = authentication_short (kept_host_reply reply) (step_result.HasReply reply ∷ steps_done) (tt, short)
  reply_short steps_done (Err fault) short = unable_short Sent steps_done short

  replied_short : (steps_done : List StepResult) (reply : Option (List ℕ)) → AreShort steps_done → Keeps (replied transaction steps_done reply)
  replied_short steps_done None short = unable_short Sent steps_done short
  replied_short steps_done (Some reply) short = reply_short steps_done (reply_of reply) short

  online_short : (ac : AcData) (steps_done : List StepResult) → AreShort steps_done → Keeps (online transaction ac steps_done)
  online_short ac steps_done short = go (is_offline_only transaction.outset.settings.kind)
    where
      go : (offline : Bool)
          → Keeps (if offline then unable_online transaction NotSent steps_done
          else host_step steps_done (request_of transaction.card (objects_at transaction steps_done) transaction.outset.settings ac (state_so_far steps_done).pin) (replied transaction steps_done))
      go true = unable_short NotSent steps_done short
      go false =
          host_step-short steps_done (request_of transaction.card (objects_at transaction steps_done) transaction.outset.settings ac (state_so_far steps_done).pin) (replied transaction steps_done) short
          (λ reply. replied_short steps_done reply short)

  first_answered-short : (ac : AcData) (steps_done : List StepResult) (kind : Kind) → AreShort steps_done → Keeps (first_answered transaction ac steps_done kind)
  first_answered-short ac steps_done Tc short = λ log replies. short
  first_answered-short ac steps_done Aac short = λ log replies. short
  first_answered-short ac steps_done Arqc short = online_short ac steps_done short

  first_short : (asked : Kind) (steps_done : List StepResult) → AreShort steps_done → Keeps (first transaction asked steps_done)
  unfolding first
  first_short asked steps_done short =
      step_short step.First step.First steps_done (generated 0x8C asked generate.First (list_data 0x8C transaction.card (objects_at transaction steps_done)))
      (λ ac. first_answered transaction ac (step_result.HasFirst ac ∷ steps_done) ac.kind) short
      (λ ac. first_answered-short ac (step_result.HasFirst ac ∷ steps_done) ac.kind (tt, short))

  analysis_short : (steps_done : List StepResult) → AreShort steps_done → Keeps (analysis transaction steps_done)
  unfolding analysis
  analysis_short steps_done short = first_short (kind_wanted transaction steps_done) (step_result.HasAnalysed (analysed_by transaction.row (kind_wanted transaction steps_done)) ∷ steps_done) (tt, short)

  risk_short : (steps_done : List StepResult) → AreShort steps_done → Keeps (risk transaction steps_done)
  unfolding risk
  risk_short steps_done short log replies =
      step_short step.Risk step.Risk steps_done (risky transaction.card transaction.outset.settings transaction.row transaction.outset.purchase log)
      (λ judged. analysis transaction (step_result.HasJudged judged ∷ steps_done)) short (λ judged. analysis_short (step_result.HasJudged judged ∷ steps_done) (tt, short)) log replies

  verification_short : (steps_done : List StepResult) → AreShort steps_done → Keeps (verification transaction steps_done)
  unfolding verification
  verification_short steps_done short =
      step_short step.Verify step.Verify steps_done (cvm transaction.card transaction.outset.settings transaction.outset.purchase)
      (λ verified. risk transaction (step_result.HasVerified verified ∷ steps_done)) short (λ verified. risk_short (step_result.HasVerified verified ∷ steps_done) (tt, short))

  restrictions_short : HasShortObjects transaction.card → Keeps (restrictions transaction)
  unfolding restrictions
  restrictions_short card =
      verification_short (step_result.HasRestricted (restricted transaction.card transaction.outset.settings transaction.row transaction.outset.purchase) ∷ step_result.HasRead transaction.card ∷ [])
      (tt, (card, tt))

module _ (outset : Outset) where
  read_short : (row : AidRow) (start : Opened) → AllShort start.entries → Keeps (read outset row start)
  unfolding read
  read_short row start all =
      card_step-short HasShortObjects (cut_off []) step.Read step.Read [] (reading start) (λ card. restrictions (record { outset = outset; row = row; card = card }))
      (λ at c. tt) tt (λ answers card left is. reading_short start answers card left all is)
      (λ card short. restrictions_short (record { outset = outset; row = row; card = card }) short)

  granted_short : (row : AidRow) (others : Rest StepResult) (found : Option Opened) → Keeps others → BeginsShort found → Keeps (granted outset row others found)
  granted_short row others None keeps begins = keeps
  granted_short row others (Some start) keeps begins = read_short row start begins

  initiation_short : (selected : SelectedData) (others : Rest StepResult) → Keeps others → Keeps (initiation outset selected others)
  unfolding initiation
  initiation_short selected others keeps =
      card_step-short BeginsShort (cut_off []) step.Initiate step.Initiate [] (initiating selected.pdol (terminal_objects outset selected.row (state_so_far [])))
      (granted outset selected.row others) (λ at c. tt) tt
      (λ answers found left is. initiating_short selected.pdol (terminal_objects outset selected.row (state_so_far [])) answers found left is)
      (λ found begins. granted_short selected.row others found keeps begins)

  opened_short : (others : Rest StepResult) (selected : Option SelectedData) → Keeps others → Keeps (initiation_or outset others selected)
  opened_short others None keeps = keeps
  opened_short others (Some selected) keeps = initiation_short selected others keeps

  candidates_short : (candidates : List CandidateData) → Keeps (candidates_left outset candidates)
  unfolding candidates_left
  candidates_short [] = λ log replies. tt
  candidates_short (candidate ∷ left) =
      step_short step.Select step.Select [] (final candidate left) (initiation_or outset (candidates_left outset left)) tt
      (λ selected. opened_short (candidates_left outset left) selected (candidates_short left))

  pub dialogue_short : (replies : List Reply) → AreShort (dialogue outset replies).steps_done
  unfolding dialogue
  dialogue_short replies =
      step_short step.Power step.Select [] (selecting_by outset.settings.pse outset.settings.aids outset.purchase.confirm)
      (λ selected. initiation outset selected (candidates_left outset selected.left)) tt
      (λ selected. initiation_short selected (candidates_left outset selected.left) (candidates_short selected.left)) [] replies
