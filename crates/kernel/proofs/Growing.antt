-- How a dialogue grows with its replies.
use Rattle.std.proofs.Common.{◌≡◌, refl, sym, ap, ◌∙◌, ℕ, Bool, true, false, List, [], ◌∷◌, ◌++◌, Option, Some, None, Result, Ok, Err, if◌then◌else◌}
use Rattle.std.proofs.lemmas.List.{append_assoc}
use Rattle.app_select.specs.Candidates.{CandidateData}
use Rattle.app_select.specs.Selecting.{SelectedData}
use Rattle.auth_message.specs.Reply.{ReplyData, reply_of}
use Rattle.auth_message.specs.declared.fault.MessageFault.{MessageFault}
use Rattle.emv_dict.specs.Progress.{Progress, Wants, Stopped, Done}
use Rattle.emv_dict.specs.Views.{AcData}
use Rattle.emv_dict.specs.declared.ending.Ending.{Ending}
use Rattle.emv_dict.specs.declared.ending.Kind.{Kind}
use Rattle.emv_dict.specs.declared.ending.Kind.TheVariants.{Tc, Aac, Arqc}
use Rattle.emv_dict.specs.declared.ending.Step.{Step}
use Rattle.emv_dict.specs.declared.ending.Step.TheVariants as step
use Rattle.emv_dict.specs.declared.judged.Judged.{Judged}
use Rattle.emv_dict.specs.declared.purchase.AidRow.{AidRow}
use Rattle.emv_dict.specs.declared.purchase.Logged.{Logged}
use Rattle.kernel.specs.StepsInTurn.{Standing, Rest, stands, over, by_progress, then_step, card_step, cut_off, host_step}
use Rattle.kernel.specs.Dialogue.{TransactionData, all_failed, left_script, scripts_behind, second, scripts_before, issuer_authentication, authentication_by, has_authentication, unable_online, kind_unable, reply_read, replied, is_offline_only, first_answered, first, analysis, risk, verification, restrictions, read, granted, initiation, initiation_or, candidates_left, selected_then, dialogue, decision, kind_for, kind_wanted}
use Rattle.kernel.specs.Laws.{deeds, deeds_behind}
use Rattle.kernel.specs.Reply.{Reply, CardSaid, CardGone, HostSaid, HostSilent, Deed, Over}
use Rattle.kernel.specs.declared.stage.OnlineOutcome.{OnlineOutcome}
use Rattle.kernel.specs.declared.stage.OnlineOutcome.TheVariants.{Replied, Unable}
use Rattle.online_step.specs.Authenticate.{authentication_step}
use Rattle.pse_directory.specs.Directory.{selecting_by}
use Rattle.read_records.specs.Options.{Opened}
use Rattle.script_run.specs.Ran.{template_ran, no_script}
use Rattle.terminal_state.specs.StepResults.{StepResult, HasRead, HasRestricted, HasVerified, HasJudged, HasAnalysed, HasFirst, HasReply, WasUnable, HasAuthenticated, HasRunBefore, HasSecond, HasRunBehind, analysed_by}
use Rattle.terminal_state.specs.Scripts.{templates_of_tag, kept_host_reply}
use Rattle.terminal_state.specs.Terminal.{Outset}
use Rattle.terminal_state.specs.declared.state_so_far.OnlineRequest.{OnlineRequest}
use Rattle.terminal_state.specs.declared.state_so_far.OnlineRequest.TheVariants.{Sent, NotSent}

-- these steps, and others behind them
abbrev Behind : List StepResult → List StepResult → Type 0
Behind steps_done more = (later : List StepResult) × (more ≡ later ++ steps_done)

-- the rest of a dialogue behind these steps
record Keeps (steps_done : List StepResult) (rest : Rest StepResult) : Type 0 where
  behind : (log : List Logged) (replies : List Reply) → Behind steps_done (rest log replies).steps_done
  grows : (log : List Logged) (replies more : List Reply) → Behind (rest log replies).steps_done (rest log (replies ++ more)).steps_done
  stays : (log : List Logged) (replies more : List Reply) (ending : Ending) → (rest log replies).deed ≡ Over ending → rest log (replies ++ more) ≡ rest log replies

same_steps_done : (steps_done : List StepResult) → Behind steps_done steps_done
same_steps_done steps_done = ([], refl)

-- one step more was finished before
later_mark : (step_result : StepResult) (steps_done more : List StepResult) → Behind (step_result ∷ steps_done) more → Behind steps_done more
later_mark step_result steps_done more found = (found.0 ++ step_result ∷ [], found.1 ∙ sym (append_assoc found.0 (step_result ∷ []) steps_done))

later_keeps : (step_result : StepResult) (steps_done : List StepResult) (rest : Rest StepResult) → Keeps (step_result ∷ steps_done) rest → Keeps steps_done rest
later_keeps step_result steps_done rest keeps = record {
  behind = λ log replies. later_mark step_result steps_done (rest log replies).steps_done (keeps.behind log replies);
  grows = keeps.grows;
  stays = keeps.stays;
}

over_keeps : (steps_done : List StepResult) (ending : Ending) → Keeps steps_done (over steps_done ending)
over_keeps steps_done ending = record {
  behind = λ log replies. same_steps_done steps_done;
  grows = λ log replies more. same_steps_done steps_done;
  stays = λ log replies more at is. refl;
}

module _ {A : Type 0} (left : Step → (List (List ℕ) → Progress A) → Standing StepResult) (step : Step) (steps_done : List StepResult) (next : A → Rest StepResult)
    (leaves : (cut : Step) (course : List (List ℕ) → Progress A) → Behind steps_done (left cut course).steps_done)
    (keeps : (value : A) → Keeps steps_done (next value)) where
  behind_by : (log : List Logged) (replies : List Reply) (wanted : List ℕ → Standing StepResult) (progress : Progress A)
      → ((command : List ℕ) → Behind steps_done (wanted command).steps_done) → Behind steps_done (then_step step steps_done next log replies wanted progress).steps_done
  behind_by log replies wanted (Wants command) wants = wants command
  behind_by log replies wanted (Stopped cause) wants = same_steps_done steps_done
  behind_by log replies wanted (Done value rest) wants = (keeps value).behind log replies

  walk_behind : (cut : Step) (course : List (List ℕ) → Progress A) (log : List Logged) (replies : List Reply) → Behind steps_done (card_step left cut step steps_done course next log replies).steps_done
  unfolding card_step
  walk_behind cut course log [] = behind_by log [] _ (course []) (λ command. same_steps_done steps_done)
  walk_behind cut course log (CardSaid answer now ∷ replies) =
      behind_by log (CardSaid answer now ∷ replies) _ (course []) (λ command. walk_behind step (λ later. course (answer ∷ later)) now replies)
  walk_behind cut course log (CardGone ∷ replies) = behind_by log (CardGone ∷ replies) _ (course []) (λ command. leaves cut course)
  walk_behind cut course log (HostSaid reply ∷ replies) = behind_by log (HostSaid reply ∷ replies) _ (course []) (λ command. same_steps_done steps_done)
  walk_behind cut course log (HostSilent ∷ replies) = behind_by log (HostSilent ∷ replies) _ (course []) (λ command. same_steps_done steps_done)

  grows_by : (log : List Logged) (replies more : List Reply) (wanted other : List ℕ → Standing StepResult) (progress : Progress A)
      → ((command : List ℕ) → Behind (wanted command).steps_done (other command).steps_done)
      → Behind (then_step step steps_done next log replies wanted progress).steps_done (then_step step steps_done next log (replies ++ more) other progress).steps_done
  grows_by log replies more wanted other (Wants command) wants = wants command
  grows_by log replies more wanted other (Stopped cause) wants = same_steps_done steps_done
  grows_by log replies more wanted other (Done value rest) wants = (keeps value).grows log replies more

  walk_grows : (cut : Step) (course : List (List ℕ) → Progress A) (log : List Logged) (replies more : List Reply)
      → Behind (card_step left cut step steps_done course next log replies).steps_done (card_step left cut step steps_done course next log (replies ++ more)).steps_done
  unfolding card_step
  walk_grows cut course log [] [] = grows_by log [] [] _ _ (course []) (λ command. same_steps_done steps_done)
  walk_grows cut course log [] (CardSaid answer now ∷ more) =
      grows_by log [] (CardSaid answer now ∷ more) _ _ (course []) (λ command. walk_behind step (λ later. course (answer ∷ later)) now more)
  walk_grows cut course log [] (CardGone ∷ more) = grows_by log [] (CardGone ∷ more) _ _ (course []) (λ command. leaves cut course)
  walk_grows cut course log [] (HostSaid reply ∷ more) = grows_by log [] (HostSaid reply ∷ more) _ _ (course []) (λ command. same_steps_done steps_done)
  walk_grows cut course log [] (HostSilent ∷ more) = grows_by log [] (HostSilent ∷ more) _ _ (course []) (λ command. same_steps_done steps_done)
  walk_grows cut course log (CardSaid answer now ∷ replies) more =
      grows_by log (CardSaid answer now ∷ replies) more _ _ (course []) (λ command. walk_grows step (λ later. course (answer ∷ later)) now replies more)
  walk_grows cut course log (CardGone ∷ replies) more = grows_by log (CardGone ∷ replies) more _ _ (course []) (λ command. same_steps_done _)
  walk_grows cut course log (HostSaid reply ∷ replies) more = grows_by log (HostSaid reply ∷ replies) more _ _ (course []) (λ command. same_steps_done steps_done)
  walk_grows cut course log (HostSilent ∷ replies) more = grows_by log (HostSilent ∷ replies) more _ _ (course []) (λ command. same_steps_done steps_done)

  stays_by : (log : List Logged) (replies more : List Reply) (wanted other : List ℕ → Standing StepResult) (progress : Progress A) (ending : Ending)
      → ((command : List ℕ) → (wanted command).deed ≡ Over ending → other command ≡ wanted command)
      → (then_step step steps_done next log replies wanted progress).deed ≡ Over ending
      → then_step step steps_done next log (replies ++ more) other progress ≡ then_step step steps_done next log replies wanted progress
  stays_by log replies more wanted other (Wants command) ending wants is = wants command is
  stays_by log replies more wanted other (Stopped cause) ending wants is = refl
  stays_by log replies more wanted other (Done value rest) ending wants is = (keeps value).stays log replies more ending is

  walk_stays : (cut : Step) (course : List (List ℕ) → Progress A) (log : List Logged) (replies more : List Reply) (ending : Ending)
      → (card_step left cut step steps_done course next log replies).deed ≡ Over ending
      → card_step left cut step steps_done course next log (replies ++ more) ≡ card_step left cut step steps_done course next log replies
  unfolding card_step
  walk_stays cut course log [] [] ending is = refl
  walk_stays cut course log [] (CardSaid answer now ∷ more) ending is = stays_by log [] (CardSaid answer now ∷ more) _ _ (course []) ending (λ command over. absurd (cc over)) is
  walk_stays cut course log [] (CardGone ∷ more) ending is = stays_by log [] (CardGone ∷ more) _ _ (course []) ending (λ command over. absurd (cc over)) is
  walk_stays cut course log [] (HostSaid reply ∷ more) ending is = stays_by log [] (HostSaid reply ∷ more) _ _ (course []) ending (λ command over. absurd (cc over)) is
  walk_stays cut course log [] (HostSilent ∷ more) ending is = stays_by log [] (HostSilent ∷ more) _ _ (course []) ending (λ command over. absurd (cc over)) is
  walk_stays cut course log (CardSaid answer now ∷ replies) more ending is =
      stays_by log (CardSaid answer now ∷ replies) more _ _ (course []) ending (λ command over. walk_stays step (λ later. course (answer ∷ later)) now replies more ending over) is
  walk_stays cut course log (CardGone ∷ replies) more ending is = stays_by log (CardGone ∷ replies) more _ _ (course []) ending (λ command over. refl) is
  walk_stays cut course log (HostSaid reply ∷ replies) more ending is = stays_by log (HostSaid reply ∷ replies) more _ _ (course []) ending (λ command over. refl) is
  walk_stays cut course log (HostSilent ∷ replies) more ending is = stays_by log (HostSilent ∷ replies) more _ _ (course []) ending (λ command over. refl) is

  -- a step over the card's answers keeps the steps before it
  card_keeps : (cut : Step) (course : List (List ℕ) → Progress A) → Keeps steps_done (card_step left cut step steps_done course next)
  card_keeps cut course = record { behind = walk_behind cut course; grows = walk_grows cut course; stays = walk_stays cut course }

host_behind : (steps_done : List StepResult) (message : List ℕ) (next : Option (List ℕ) → Rest StepResult) → ((reply : Option (List ℕ)) → Keeps steps_done (next reply))
    → (log : List Logged) (replies : List Reply) → Behind steps_done (host_step steps_done message next log replies).steps_done
unfolding host_step
host_behind steps_done message next keeps log [] = same_steps_done steps_done
host_behind steps_done message next keeps log (CardSaid answer now ∷ replies) = same_steps_done steps_done
host_behind steps_done message next keeps log (CardGone ∷ replies) = same_steps_done steps_done
host_behind steps_done message next keeps log (HostSaid reply ∷ replies) = (keeps (Some reply)).behind log replies
host_behind steps_done message next keeps log (HostSilent ∷ replies) = (keeps None).behind log replies

host_grows : (steps_done : List StepResult) (message : List ℕ) (next : Option (List ℕ) → Rest StepResult) → ((reply : Option (List ℕ)) → Keeps steps_done (next reply))
    → (log : List Logged) (replies more : List Reply) → Behind (host_step steps_done message next log replies).steps_done (host_step steps_done message next log (replies ++ more)).steps_done
unfolding host_step
host_grows steps_done message next keeps log [] more = host_behind steps_done message next keeps log more
host_grows steps_done message next keeps log (CardSaid answer now ∷ replies) more = same_steps_done steps_done
host_grows steps_done message next keeps log (CardGone ∷ replies) more = same_steps_done steps_done
host_grows steps_done message next keeps log (HostSaid reply ∷ replies) more = (keeps (Some reply)).grows log replies more
host_grows steps_done message next keeps log (HostSilent ∷ replies) more = (keeps None).grows log replies more

host_stays : (steps_done : List StepResult) (message : List ℕ) (next : Option (List ℕ) → Rest StepResult) → ((reply : Option (List ℕ)) → Keeps steps_done (next reply))
    → (log : List Logged) (replies more : List Reply) (ending : Ending) → (host_step steps_done message next log replies).deed ≡ Over ending
    → host_step steps_done message next log (replies ++ more) ≡ host_step steps_done message next log replies
unfolding host_step
host_stays steps_done message next keeps log [] more ending is = absurd (cc is)
host_stays steps_done message next keeps log (CardSaid answer now ∷ replies) more ending is = refl
host_stays steps_done message next keeps log (CardGone ∷ replies) more ending is = refl
host_stays steps_done message next keeps log (HostSaid reply ∷ replies) more ending is = (keeps (Some reply)).stays log replies more ending is
host_stays steps_done message next keeps log (HostSilent ∷ replies) more ending is = (keeps None).stays log replies more ending is

-- and so does a message for the host
host_keeps : (steps_done : List StepResult) (message : List ℕ) (next : Option (List ℕ) → Rest StepResult) → ((reply : Option (List ℕ)) → Keeps steps_done (next reply)) → Keeps steps_done (host_step steps_done message next)
host_keeps steps_done message next keeps = record {
  behind = host_behind steps_done message next keeps;
  grows = host_grows steps_done message next keeps;
  stays = host_stays steps_done message next keeps;
}

failed_behind : (others : List (List ℕ)) (steps_done : List StepResult) → Behind steps_done (all_failed others steps_done)
failed_behind [] steps_done = same_steps_done steps_done
failed_behind (template ∷ others) steps_done = later_mark (HasRunBehind no_script) steps_done _ (failed_behind others (HasRunBehind no_script ∷ steps_done))

left_behind : (ending : Ending) (others : List (List ℕ)) (steps_done : List StepResult) (progress : Progress (List ℕ))
    → Behind steps_done (by_progress (λ command. stands steps_done (Over ending)) (λ cause. stands steps_done (Over ending)) (λ result. stands (all_failed others (HasRunBehind result ∷ steps_done)) (Over ending)) progress).steps_done
left_behind ending others steps_done (Wants command) = same_steps_done steps_done
left_behind ending others steps_done (Stopped cause) = same_steps_done steps_done
left_behind ending others steps_done (Done result rest) = later_mark (HasRunBehind result) steps_done _ (failed_behind others (HasRunBehind result ∷ steps_done))

scripts_behind_keeps : (ending : Ending) (scripts : List (List ℕ)) (steps_done : List StepResult) → Keeps steps_done (scripts_behind ending scripts steps_done)
unfolding scripts_behind
scripts_behind_keeps ending [] steps_done = over_keeps steps_done ending
scripts_behind_keeps ending (template ∷ others) steps_done =
    card_keeps (left_script ending others steps_done) step.Script steps_done (λ result. scripts_behind ending others (HasRunBehind result ∷ steps_done))
    (λ cut course. left_behind ending others steps_done (course ([] ∷ [])))
    (λ result. later_keeps (HasRunBehind result) steps_done _ (scripts_behind_keeps ending others (HasRunBehind result ∷ steps_done)))
    step.Script (template_ran template)

second_keeps : (transaction : TransactionData) (outcome : OnlineOutcome) (asked : Kind) (behind : List (List ℕ)) (steps_done : List StepResult) → Keeps steps_done (second transaction outcome asked behind steps_done)
unfolding second
second_keeps transaction outcome asked behind steps_done =
    card_keeps (cut_off steps_done) step.Second steps_done (λ ac. scripts_behind (decision outcome ac.kind) behind (HasSecond ac ∷ steps_done)) (λ cut course. same_steps_done steps_done)
    (λ ac. later_keeps (HasSecond ac) steps_done _ (scripts_behind_keeps (decision outcome ac.kind) behind (HasSecond ac ∷ steps_done)))
    step.Second _

scripts_before_keeps : (transaction : TransactionData) (reply : ReplyData) (scripts : List (List ℕ)) (steps_done : List StepResult) → Keeps steps_done (scripts_before transaction reply scripts steps_done)
unfolding scripts_before
scripts_before_keeps transaction reply [] steps_done = second_keeps transaction Replied (kind_for reply.code) (templates_of_tag 0x72 reply.scripts) steps_done
scripts_before_keeps transaction reply (template ∷ others) steps_done =
    card_keeps (cut_off steps_done) step.Script steps_done (λ result. scripts_before transaction reply others (HasRunBefore result ∷ steps_done)) (λ cut course. same_steps_done steps_done)
    (λ result. later_keeps (HasRunBefore result) steps_done _ (scripts_before_keeps transaction reply others (HasRunBefore result ∷ steps_done)))
    step.Script (template_ran template)

authentication_by_keeps : (transaction : TransactionData) (reply : ReplyData) (steps_done : List StepResult) (has : Bool) (auth : Option (List ℕ)) → Keeps steps_done (authentication_by transaction reply steps_done has auth)
authentication_by_keeps transaction reply steps_done has None = scripts_before_keeps transaction reply (templates_of_tag 0x71 reply.scripts) steps_done
authentication_by_keeps transaction reply steps_done false (Some value) = scripts_before_keeps transaction reply (templates_of_tag 0x71 reply.scripts) steps_done
authentication_by_keeps transaction reply steps_done true (Some value) =
    card_keeps (cut_off steps_done) step.Authenticate steps_done (λ good. scripts_before transaction reply (templates_of_tag 0x71 reply.scripts) (HasAuthenticated good ∷ steps_done)) (λ cut course. same_steps_done steps_done)
    (λ good. later_keeps (HasAuthenticated good) steps_done _ (scripts_before_keeps transaction reply (templates_of_tag 0x71 reply.scripts) (HasAuthenticated good ∷ steps_done)))
    step.Authenticate (authentication_step value)

authentication_keeps : (transaction : TransactionData) (reply : ReplyData) (steps_done : List StepResult) → Keeps steps_done (issuer_authentication transaction reply steps_done)
unfolding issuer_authentication
authentication_keeps transaction reply steps_done = authentication_by_keeps transaction reply steps_done (has_authentication transaction.card) reply.auth

unable_keeps : (transaction : TransactionData) (request : OnlineRequest) (steps_done : List StepResult) → Keeps steps_done (unable_online transaction request steps_done)
unfolding unable_online
unable_keeps transaction request steps_done =
    later_keeps (WasUnable request (kind_unable transaction steps_done)) steps_done _ (second_keeps transaction Unable (kind_unable transaction steps_done) [] (WasUnable request (kind_unable transaction steps_done) ∷ steps_done))

reply_keeps : (transaction : TransactionData) (steps_done : List StepResult) (said : Result ReplyData MessageFault) → Keeps steps_done (reply_read transaction steps_done said)
reply_keeps transaction steps_done (Ok reply) = later_keeps (HasReply reply) steps_done _ (authentication_keeps transaction (kept_host_reply reply) (HasReply reply ∷ steps_done))
reply_keeps transaction steps_done (Err fault) = unable_keeps transaction Sent steps_done

replied_keeps : (transaction : TransactionData) (steps_done : List StepResult) (reply : Option (List ℕ)) → Keeps steps_done (replied transaction steps_done reply)
replied_keeps transaction steps_done None = unable_keeps transaction Sent steps_done
replied_keeps transaction steps_done (Some reply) = reply_keeps transaction steps_done (reply_of reply)

online_by_keeps : (transaction : TransactionData) (ac : AcData) (steps_done : List StepResult) (message : List ℕ) (test : Bool)
    → Keeps steps_done (let rest : Rest StepResult = (if test then unable_online transaction NotSent steps_done else host_step steps_done message (replied transaction steps_done)) in rest)
online_by_keeps transaction ac steps_done message true = unable_keeps transaction NotSent steps_done
online_by_keeps transaction ac steps_done message false = host_keeps steps_done message (replied transaction steps_done) (replied_keeps transaction steps_done)

first_answered_keeps : (transaction : TransactionData) (ac : AcData) (steps_done : List StepResult) (kind : Kind) → Keeps steps_done (first_answered transaction ac steps_done kind)
first_answered_keeps transaction ac steps_done Tc = over_keeps steps_done _
first_answered_keeps transaction ac steps_done Aac = over_keeps steps_done _
first_answered_keeps transaction ac steps_done Arqc = online_by_keeps transaction ac steps_done _ (is_offline_only transaction.outset.settings.kind)

first_keeps : (transaction : TransactionData) (asked : Kind) (steps_done : List StepResult) → Keeps steps_done (first transaction asked steps_done)
unfolding first
first_keeps transaction asked steps_done =
    card_keeps (cut_off steps_done) step.First steps_done (λ ac. first_answered transaction ac (HasFirst ac ∷ steps_done) ac.kind) (λ cut course. same_steps_done steps_done)
    (λ ac. later_keeps (HasFirst ac) steps_done _ (first_answered_keeps transaction ac (HasFirst ac ∷ steps_done) ac.kind))
    step.First _

analysis_keeps : (transaction : TransactionData) (steps_done : List StepResult) → Keeps steps_done (analysis transaction steps_done)
unfolding analysis
analysis_keeps transaction steps_done = later_keeps (HasAnalysed (analysed_by transaction.row (kind_wanted transaction steps_done))) steps_done _ (first_keeps transaction (kind_wanted transaction steps_done) (HasAnalysed (analysed_by transaction.row (kind_wanted transaction steps_done)) ∷ steps_done))

risk_keeps_at : (transaction : TransactionData) (steps_done : List StepResult) (course : List (List ℕ) → Progress Judged)
    → Keeps steps_done (card_step (cut_off steps_done) step.Risk step.Risk steps_done course (λ judged. analysis transaction (HasJudged judged ∷ steps_done)))
risk_keeps_at transaction steps_done course =
    card_keeps (cut_off steps_done) step.Risk steps_done (λ judged. analysis transaction (HasJudged judged ∷ steps_done)) (λ cut course. same_steps_done steps_done)
    (λ judged. later_keeps (HasJudged judged) steps_done _ (analysis_keeps transaction (HasJudged judged ∷ steps_done)))
    step.Risk course

risk_keeps : (transaction : TransactionData) (steps_done : List StepResult) → Keeps steps_done (risk transaction steps_done)
unfolding risk
risk_keeps transaction steps_done = record {
  behind = λ log replies. (risk_keeps_at transaction steps_done _).behind log replies;
  grows = λ log replies more. (risk_keeps_at transaction steps_done _).grows log replies more;
  stays = λ log replies more ending is. (risk_keeps_at transaction steps_done _).stays log replies more ending is;
}

verification_keeps : (transaction : TransactionData) (steps_done : List StepResult) → Keeps steps_done (verification transaction steps_done)
unfolding verification
verification_keeps transaction steps_done =
    card_keeps (cut_off steps_done) step.Verify steps_done (λ verified. risk transaction (HasVerified verified ∷ steps_done)) (λ cut course. same_steps_done steps_done)
    (λ verified. later_keeps (HasVerified verified) steps_done _ (risk_keeps transaction (HasVerified verified ∷ steps_done)))
    step.Verify _

pub verification_behind : (transaction : TransactionData) (steps_done : List StepResult) (log : List Logged) (replies : List Reply) → (later : List StepResult) × ((verification transaction steps_done log replies).steps_done ≡ later ++ steps_done)
verification_behind transaction steps_done log replies = (verification_keeps transaction steps_done).behind log replies

restrictions_keep : (transaction : TransactionData) → Keeps [] (restrictions transaction)
unfolding restrictions
restrictions_keep transaction =
    later_keeps (HasRead transaction.card) [] _ (later_keeps (HasRestricted _) (HasRead transaction.card ∷ []) _ (verification_keeps transaction _))

read_keeps : (outset : Outset) (row : AidRow) (at : Opened) → Keeps [] (read outset row at)
unfolding read
read_keeps outset row at =
    card_keeps (cut_off []) step.Read [] (λ card. restrictions (record { outset = outset; row = row; card = card })) (λ cut course. same_steps_done [])
    (λ card. restrictions_keep (record { outset = outset; row = row; card = card }))
    step.Read _

granted_keeps : (outset : Outset) (row : AidRow) (others : Rest StepResult) → Keeps [] others → (at : Option Opened) → Keeps [] (granted outset row others at)
granted_keeps outset row others keeps None = keeps
granted_keeps outset row others keeps (Some at) = read_keeps outset row at

initiation_keeps : (outset : Outset) (selected : SelectedData) (others : Rest StepResult) → Keeps [] others → Keeps [] (initiation outset selected others)
unfolding initiation
initiation_keeps outset selected others keeps =
    card_keeps (cut_off []) step.Initiate [] (granted outset selected.row others) (λ cut course. same_steps_done []) (granted_keeps outset selected.row others keeps)
    step.Initiate _

opened_keeps : (outset : Outset) (others : Rest StepResult) → Keeps [] others → (selected : Option SelectedData) → Keeps [] (initiation_or outset others selected)
opened_keeps outset others keeps None = keeps
opened_keeps outset others keeps (Some selected) = initiation_keeps outset selected others keeps

candidates_keep : (outset : Outset) (candidates : List CandidateData) → Keeps [] (candidates_left outset candidates)
unfolding candidates_left
candidates_keep outset [] = over_keeps [] _
candidates_keep outset (candidate ∷ left) =
    card_keeps (cut_off []) step.Select [] (initiation_or outset (candidates_left outset left)) (λ cut course. same_steps_done [])
    (opened_keeps outset (candidates_left outset left) (candidates_keep outset left))
    step.Select _

dialogue_keeps : (outset : Outset) → Keeps [] (card_step (cut_off []) step.Power step.Select [] (selecting_by outset.settings.pse outset.settings.aids outset.purchase.confirm) (selected_then outset))
dialogue_keeps outset =
    card_keeps (cut_off []) step.Select [] (selected_then outset) (λ cut course. same_steps_done [])
    (λ selected. initiation_keeps outset selected (candidates_left outset selected.left) (candidates_keep outset selected.left))
    step.Power _

-- a finished step stays finished
pub steps_stay : (outset : Outset) (replies more : List Reply) → (later : List StepResult) × ((dialogue outset (replies ++ more)).steps_done ≡ later ++ (dialogue outset replies).steps_done)
unfolding dialogue
steps_stay outset replies more = (dialogue_keeps outset).grows [] replies more

-- and an end stays
pub ends_stay : (outset : Outset) (replies more : List Reply) (ending : Ending) → (dialogue outset replies).deed ≡ Over ending → dialogue outset (replies ++ more) ≡ dialogue outset replies
unfolding dialogue
ends_stay outset replies more ending is = (dialogue_keeps outset).stays [] replies more ending is

deeds_grow_behind : (outset : Outset) (before replies more : List Reply) → (later : List Deed) × (deeds_behind outset before (replies ++ more) ≡ deeds_behind outset before replies ++ later)
deeds_grow_behind outset before [] [] = ([], refl)
deeds_grow_behind outset before [] (reply ∷ more) = (deeds_behind outset (before ++ reply ∷ []) more, refl)
deeds_grow_behind outset before (reply ∷ replies) more =
    let later = deeds_grow_behind outset (before ++ reply ∷ []) replies more in
    (later.0, ap (λ (behind : List Deed). (dialogue outset before).deed ∷ behind) later.1)

-- further replies add deeds
pub deeds_grow : (outset : Outset) (replies more : List Reply) → (later : List Deed) × (deeds outset (replies ++ more) ≡ deeds outset replies ++ later)
deeds_grow outset replies more = deeds_grow_behind outset [] replies more
