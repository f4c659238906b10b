-- Issuer authentication: EXTERNAL AUTHENTICATE (EMV 4.3 Book 3 section 10.9).
use Rattle.std.specs.Prelude.{ℕ, Bool, true, false, ◌==◌, if◌then◌else◌, List, ◌∷◌, bit_and, slice_index, Option, Some, None}
use Rattle.auth_message.specs.Reply.{ReplyData}
use Rattle.emv_dict.specs.declared.ending.Step.TheVariants as step
use Rattle.kernel.specs.StepsInTurn.{Rest, card_step, cut_off}
use Rattle.kernel.specs.ScriptsBefore.{issuer_scripts}
use Rattle.kernel.specs.StepBasis.{TransactionData}
use Rattle.object_lists.specs.CardRead.{ReadCard}
use Rattle.online_step.specs.Authenticate.{authentication_step}
use Rattle.terminal_state.specs.StepResults.{StepResult}
use Rattle.terminal_state.specs.StepResults as step_result

-- the card has issuer authentication: b3 of the first byte of the application interchange profile
abbrev pub has_authentication : ReadCard → Bool
has_authentication card = (if bit_and (slice_index card.aip 0) 0x04 == 0 then false else true)

-- what follows EXTERNAL AUTHENTICATE: the scripts
abbrev pub authenticated_then : TransactionData → ReplyData → List StepResult → Bool → Rest StepResult
authenticated_then transaction reply steps_done good = issuer_scripts transaction reply (step_result.HasAuthenticated good ∷ steps_done)

abbrev pub authentication_by : TransactionData → ReplyData → List StepResult → Bool → Option (List ℕ) → Rest StepResult
authentication_by transaction reply steps_done has None = issuer_scripts transaction reply steps_done
authentication_by transaction reply steps_done has (Some value) =
    if has then card_step (cut_off steps_done) step.Authenticate step.Authenticate steps_done (authentication_step value)
    (authenticated_then transaction reply steps_done)
    else issuer_scripts transaction reply steps_done

-- EXTERNAL AUTHENTICATE, where the reply has data for it and the card the function
unfoldable pub issuer_authentication : TransactionData → ReplyData → List StepResult → Rest StepResult
issuer_authentication transaction reply steps_done = authentication_by transaction reply steps_done (has_authentication transaction.card) reply.auth
