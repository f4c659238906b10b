-- From the host's reply to the end.
use Rattle.std.proofs.Common.{◌≡◌, refl, sym, ap, ◌∙◌, ℕ, Bool, true, List, [], ◌∷◌, Option, Some, None, Result, Ok, Err}
use Rattle.auth_message.specs.Reply.{ReplyData, reply_of}
use Rattle.auth_message.specs.declared.fault.MessageFault.{MessageFault}
use Rattle.emv_dict.specs.Progress.{Progress, Wants, Stopped, Done}
use Rattle.emv_dict.specs.Views.{AcData}
use Rattle.emv_dict.specs.declared.ending.Cause.{Cause}
use Rattle.emv_dict.specs.declared.ending.Ending.{Ending}
use Rattle.emv_dict.specs.declared.ending.Step.TheVariants as step
use Rattle.emv_dict.specs.declared.purchase.Logged.{Logged}
use Rattle.kernel.proofs.Courses.{same, gone}
use Rattle.kernel.proofs.Deciding.{stands_over}
use Rattle.kernel.specs.StepsInTurn.{Standing, Rest, card_step, cut_off, host_step}
use Rattle.kernel.specs.Dialogue.{TransactionData, issuer_authentication, authentication_by, has_authentication, issuer_scripts, replied, reply_read, unable_online, scripts_behind, decision, left_script, all_failed}
use Rattle.kernel.specs.Reply.{Reply, CardGone, HostSaid, HostSilent}
use Rattle.kernel.specs.Stages.{TradingStands, Begins, authenticating, behind_if}
use Rattle.kernel.specs.declared.stage.OnlineOutcome.{OnlineOutcome}
use Rattle.kernel.specs.declared.stage.Trading.TheVariants as trading
use Rattle.online_step.specs.Authenticate.{authenticate_command, authentication_step, authentication_verdict, after_verdict}
use Rattle.terminal_state.specs.StepResults.{StepResult, HasReply, HasSecond, HasAuthenticated, HasRunBehind, state_so_far, latest, sets_card}
use Rattle.terminal_state.specs.Scripts.{kept_host_reply}
use Rattle.terminal_state.specs.declared.state_so_far.OnlineRequest.TheVariants.{Sent}
use Rattle.terminal_state.specs.declared.table.Table.{Table}

-- the host doesn't reply
pub silent : (t : Table) → (transaction : TransactionData) → (steps_done : List StepResult) → (message : List ℕ) → (log : List Logged) → (rest : List Reply → Standing StepResult) → ((later : List Reply) → rest later ≡ host_step steps_done message (replied transaction steps_done) log later) → t.state_so_far ≡ state_so_far steps_done → latest sets_card None steps_done ≡ Some transaction.card → Begins t transaction.card steps_done (λ later. rest (HostSilent ∷ later)) (unable_online transaction Sent steps_done log)
unfolding host_step
silent t transaction steps_done message log rest passed tied read = record { passed = λ later. passed (HostSilent ∷ later); tied = tied; read = read }

-- its reply can't be read
pub unread : (t : Table) → (transaction : TransactionData) → (steps_done : List StepResult) → (message : List ℕ) → (log : List Logged) → (rest : List Reply → Standing StepResult) → (reply : List ℕ) → (fault : MessageFault) → ((later : List Reply) → rest later ≡ host_step steps_done message (replied transaction steps_done) log later) → t.state_so_far ≡ state_so_far steps_done → latest sets_card None steps_done ≡ Some transaction.card → reply_of reply ≡ Err fault → Begins t transaction.card steps_done (λ later. rest (HostSaid reply ∷ later)) (unable_online transaction Sent steps_done log)
unfolding host_step
unread t transaction steps_done message log rest reply fault passed tied read is = record {
  passed = λ later. passed (HostSaid reply ∷ later) ∙ ap (λ (r : Result ReplyData MessageFault). reply_read transaction steps_done r log later) is;
  tied = tied;
  read = read;
}

-- it is read
pub heard : (t : Table) → (transaction : TransactionData) → (steps_done : List StepResult) → (message : List ℕ) → (log : List Logged) → (rest : List Reply → Standing StepResult) → (reply : List ℕ) → (said : ReplyData) → ((later : List Reply) → rest later ≡ host_step steps_done message (replied transaction steps_done) log later) → t.state_so_far ≡ state_so_far steps_done → latest sets_card None steps_done ≡ Some transaction.card → reply_of reply ≡ Ok said → Begins t transaction.card steps_done (λ later. rest (HostSaid reply ∷ later)) (issuer_authentication transaction (kept_host_reply said) (HasReply said ∷ steps_done) log)
unfolding host_step
heard t transaction steps_done message log rest reply said passed tied read is = record {
  passed = λ later. passed (HostSaid reply ∷ later) ∙ ap (λ (r : Result ReplyData MessageFault). reply_read transaction steps_done r log later) is;
  tied = tied;
  read = read;
}

-- and kept
pub reply_kept : (t t2 : Table) → (transaction : TransactionData) → (steps_done : List StepResult) → (log : List Logged) → (rest : List Reply → Standing StepResult) → (said : ReplyData) → Begins t transaction.card steps_done rest (issuer_authentication transaction (kept_host_reply said) (HasReply said ∷ steps_done) log) → t2.reply ≡ kept_host_reply said → t2.state_so_far ≡ state_so_far (HasReply said ∷ steps_done) → Begins t2 transaction.card (HasReply said ∷ steps_done) rest (issuer_authentication transaction t2.reply (HasReply said ∷ steps_done) log)
reply_kept t t2 transaction steps_done log rest said begins is tied = record {
  passed = λ later. begins.passed later ∙ ap (λ (reply : ReplyData). issuer_authentication transaction reply (HasReply said ∷ steps_done) log later) (sym is);
  tied = tied;
  read = begins.read;
}

authenticating_same : (value command : List ℕ) → command ≡ authenticate_command value → (later : List (List ℕ)) → authentication_step value later ≡ authenticating command later
authenticating_same value command is [] = ap (λ (bytes : List ℕ). let p : Progress Bool = Wants bytes in p) (sym is)
authenticating_same value command is (answer ∷ later) = refl

-- EXTERNAL AUTHENTICATE waits for its answer
pub asks_authentication : (t t2 : Table) → (transaction : TransactionData) → (steps_done : List StepResult) → (log : List Logged) → (rest : List Reply → Standing StepResult) → (value : List ℕ) → Begins t transaction.card steps_done rest (issuer_authentication transaction t.reply steps_done log) → t.reply.auth ≡ Some value → has_authentication transaction.card ≡ true → t2.command.items ≡ authenticate_command value → t2.reply ≡ t.reply → t2.state_so_far ≡ t.state_so_far → TradingStands t2 transaction trading.Authenticate log rest
unfolding issuer_authentication
asks_authentication t t2 transaction steps_done log rest value begins auth has command kept_reply kept_state_so_far = record {
  steps_done = steps_done;
  passed = λ later. begins.passed later
      ∙ ap (λ (found : Option (List ℕ)). authentication_by transaction t.reply steps_done (has_authentication transaction.card) found log later) auth
      ∙ ap (λ (test : Bool). authentication_by transaction t.reply steps_done test (Some value) log later) has
      ∙ same (cut_off steps_done) step.Authenticate step.Authenticate steps_done (authentication_step value) (authenticating t2.command.items) (λ good. issuer_scripts transaction t.reply (HasAuthenticated good ∷ steps_done)) log later
      (λ at one two equal. refl) (authenticating_same value t2.command.items command)
      ∙ ap (λ (reply : ReplyData). card_step (cut_off steps_done) step.Authenticate step.Authenticate steps_done (authenticating t2.command.items) (λ good. issuer_scripts transaction reply (HasAuthenticated good ∷ steps_done)) log later) (sym kept_reply);
  tied = kept_state_so_far ∙ begins.tied;
  read = begins.read;
  shows = tt;
}

pub verdict_given : (answer : List ℕ) → (good : Bool) → (later : List (List ℕ)) → Ok good ≡ authentication_verdict answer → after_verdict (authentication_verdict answer) later ≡ Done good later
verdict_given answer good later is = rw (← is) refl

pub verdict_refused : (answer : List ℕ) → (cause : Cause) → (later : List (List ℕ)) → Err cause ≡ authentication_verdict answer → after_verdict (authentication_verdict answer) later ≡ Stopped cause
verdict_refused answer cause later is = rw (← is) refl

-- the second cryptogram settles the ending
pub settles : (t t2 : Table) → (transaction : TransactionData) → (steps_done : List StepResult) → (log : List Logged) → (rest : List Reply → Standing StepResult) → (outcome : OnlineOutcome) → (ac : AcData) → (ending : Ending) → (scripts : List ℕ) → (behind : List (List ℕ)) → Begins t transaction.card steps_done rest (scripts_behind (decision outcome ac.kind) (behind_if outcome scripts) (HasSecond ac ∷ steps_done) log) → ending ≡ decision outcome ac.kind → behind_if outcome scripts ≡ behind → t2.state_so_far ≡ state_so_far (HasSecond ac ∷ steps_done) → Begins t2 transaction.card (HasSecond ac ∷ steps_done) rest (scripts_behind ending behind (HasSecond ac ∷ steps_done) log)
settles t t2 transaction steps_done log rest outcome ac ending scripts behind begins is same_behind tied = record {
  passed = λ later. begins.passed later ∙ ap (λ (e : Ending). scripts_behind e (behind_if outcome scripts) (HasSecond ac ∷ steps_done) log later) (sym is) ∙ ap (λ (b : List (List ℕ)). scripts_behind ending b (HasSecond ac ∷ steps_done) log later) same_behind;
  tied = tied;
  read = begins.read;
}

failed-card : (others : List (List ℕ)) → (steps_done : List StepResult) → latest sets_card None (all_failed others steps_done) ≡ latest sets_card None steps_done
failed-card [] steps_done = refl
failed-card (template ∷ others) steps_done = failed-card others (HasRunBehind (0 ∷ 0 ∷ 0 ∷ 0 ∷ 0 ∷ []) ∷ steps_done)

-- the card is gone in a script behind it
pub script_left : (t2 : Table) → (transaction : TransactionData) → (ending : Ending) → (others : List (List ℕ)) → (steps_done : List StepResult) → (log : List Logged) → (course : List (List ℕ) → Progress (List ℕ)) → (next : List ℕ → Rest StepResult) → (command found : List ℕ) → (rest : List Reply → Standing StepResult) → ((later : List Reply) → rest later ≡ card_step (left_script ending others steps_done) step.Script step.Script steps_done course next log later) → latest sets_card None steps_done ≡ Some transaction.card → course [] ≡ Wants command → course ([] ∷ []) ≡ Done found [] → t2.state_so_far ≡ state_so_far (all_failed others (HasRunBehind found ∷ steps_done)) → TradingStands t2 transaction (trading.Over ending) log (λ later. rest (CardGone ∷ later))
script_left t2 transaction ending others steps_done log course next command found rest passed read wants fails tied =
    stands_over t2 transaction (all_failed others (HasRunBehind found ∷ steps_done)) log (λ later. rest (CardGone ∷ later)) ending
    (λ later. passed (CardGone ∷ later) ∙ gone (left_script ending others steps_done) step.Script step.Script steps_done course next log command wants later ∙ rw fails refl)
    tied (failed-card others (HasRunBehind found ∷ steps_done) ∙ read)
