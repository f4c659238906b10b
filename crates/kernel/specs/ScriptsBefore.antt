-- The issuer's scripts before the second cryptogram: the templates 71 (EMV 4.3 Book 3 section 10.10).
use Rattle.std.specs.Prelude.{ℕ, if◌then◌else◌, List, [], ◌∷◌}
use Rattle.std.specs.Str.{bytes_eq}
use Rattle.auth_message.specs.Reply.{ReplyData}
use Rattle.emv_dict.specs.declared.ending.Kind.{Kind}
use Rattle.emv_dict.specs.declared.ending.Kind.TheVariants.{Aac, Tc}
use Rattle.emv_dict.specs.declared.ending.Step.TheVariants as step
use Rattle.kernel.specs.Completion.{second}
use Rattle.kernel.specs.StepsInTurn.{Rest, card_step, cut_off}
use Rattle.kernel.specs.StepBasis.{TransactionData}
use Rattle.kernel.specs.declared.stage.OnlineOutcome.TheVariants.{Replied}
use Rattle.script_run.specs.Ran.{template_ran}
use Rattle.terminal_state.specs.StepResults.{StepResult}
use Rattle.terminal_state.specs.StepResults as step_result
use Rattle.terminal_state.specs.Scripts.{templates_of_tag}

-- the kind that a reply's code asks for: 00 approves
abbrev pub kind_for : List ℕ → Kind
kind_for code = (if bytes_eq code (0x30 ∷ 0x30 ∷ []) then Tc else Aac)

-- the templates 71, before it
unfoldable pub scripts_before : TransactionData → ReplyData → List (List ℕ) → List StepResult → Rest StepResult
scripts_before transaction reply [] steps_done = second transaction Replied (kind_for reply.code) (templates_of_tag 0x72 reply.scripts) steps_done
scripts_before transaction reply (template ∷ others) steps_done =
    card_step (cut_off steps_done) step.Script step.Script steps_done (template_ran template)
    (λ result. scripts_before transaction reply others (step_result.HasRunBefore result ∷ steps_done))

abbrev pub issuer_scripts : TransactionData → ReplyData → List StepResult → Rest StepResult
issuer_scripts transaction reply steps_done = scripts_before transaction reply (templates_of_tag 0x71 reply.scripts) steps_done
