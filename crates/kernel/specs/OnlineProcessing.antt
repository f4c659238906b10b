-- Online processing: the request to the issuer, and its reply or none (EMV 4.3 Book 3 section 10.9).
use Rattle.std.specs.Prelude.{ℕ, Bool, ◌==◌, ◌||◌, if◌then◌else◌, List, [], ◌∷◌, Option, Some, None, Result, Ok, Err}
use Rattle.action_analysis.specs.Analysed.{codes_of, unable}
use Rattle.auth_message.specs.Reply.{ReplyData, reply_of}
use Rattle.auth_message.specs.declared.fault.MessageFault.{MessageFault}
use Rattle.emv_dict.specs.Views.{AcData}
use Rattle.emv_dict.specs.declared.ending.Kind.{Kind}
use Rattle.kernel.specs.Completion.{second}
use Rattle.kernel.specs.StepsInTurn.{Rest, host_step}
use Rattle.kernel.specs.IssuerAuthentication.{issuer_authentication}
use Rattle.kernel.specs.StepBasis.{TransactionData, objects_at}
use Rattle.kernel.specs.declared.stage.OnlineOutcome.TheVariants.{Unable}
use Rattle.online_step.specs.Request.{request_of}
use Rattle.terminal_state.specs.StepResults.{StepResult, state_so_far}
use Rattle.terminal_state.specs.StepResults as step_result
use Rattle.terminal_state.specs.Scripts.{kept_host_reply}
use Rattle.terminal_state.specs.declared.state_so_far.OnlineRequest.{OnlineRequest}
use Rattle.terminal_state.specs.declared.state_so_far.OnlineRequest.TheVariants.{Sent, NotSent}

-- the kind that is asked for where the terminal was unable to go online
abbrev pub kind_unable : TransactionData → List StepResult → Kind
kind_unable transaction steps_done = unable (state_so_far steps_done).tvr (codes_of transaction.card transaction.row) transaction.outset.settings.kind

-- unable to go online, behind a request or without one: the second GENERATE AC is asked at once
unfoldable pub unable_online : TransactionData → OnlineRequest → List StepResult → Rest StepResult
unable_online transaction request steps_done =
    second transaction Unable (kind_unable transaction steps_done) [] (step_result.WasUnable request (kind_unable transaction steps_done) ∷ steps_done)

abbrev pub reply_read : TransactionData → List StepResult → Result ReplyData MessageFault → Rest StepResult
reply_read transaction steps_done (Ok reply) = issuer_authentication transaction (kept_host_reply reply) (step_result.HasReply reply ∷ steps_done)
reply_read transaction steps_done (Err fault) = unable_online transaction Sent steps_done

-- silence, or a reply with a fault, makes the terminal unable too
abbrev pub replied : TransactionData → List StepResult → Option (List ℕ) → Rest StepResult
replied transaction steps_done None = unable_online transaction Sent steps_done
replied transaction steps_done (Some reply) = reply_read transaction steps_done (reply_of reply)

-- a terminal without online capability (EMV 4.3 Book 4 Annex A1)
abbrev pub is_offline_only : ℕ → Bool
is_offline_only kind = (kind == 23) || (kind == 26)

abbrev pub online : TransactionData → AcData → List StepResult → Rest StepResult
online transaction ac steps_done =
    if is_offline_only transaction.outset.settings.kind then unable_online transaction NotSent steps_done
    else host_step steps_done (request_of transaction.card (objects_at transaction steps_done) transaction.outset.settings ac (state_so_far steps_done).pin) (replied transaction steps_done)
