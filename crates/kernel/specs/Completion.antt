-- Completion: the second GENERATE AC, and what its cryptogram decides (EMV 4.3 Book 3 section 10.11).
use Rattle.std.specs.Prelude.{ℕ, Bool, true, false, List, ◌∷◌}
use Rattle.emv_dict.specs.Views.{AcData}
use Rattle.emv_dict.specs.declared.ending.Ending.{Ending}
use Rattle.emv_dict.specs.declared.ending.Ending.TheVariants.{Approved, Declined}
use Rattle.emv_dict.specs.declared.ending.Kind.{Kind}
use Rattle.emv_dict.specs.declared.ending.Kind.TheVariants.{Aac, Tc, Arqc}
use Rattle.emv_dict.specs.declared.ending.Step.TheVariants as step
use Rattle.kernel.specs.StepsInTurn.{Rest, card_step, cut_off}
use Rattle.kernel.specs.ScriptsBehind.{scripts_behind}
use Rattle.kernel.specs.StepBasis.{TransactionData, objects_at}
use Rattle.kernel.specs.declared.stage.OnlineOutcome.{OnlineOutcome}
use Rattle.kernel.specs.declared.stage.OnlineOutcome.TheVariants.{Replied, Unable}
use Rattle.online_step.specs.Generate.{generated, list_data}
use Rattle.online_step.specs.declared.ac.GenerateAc.TheVariants as generate
use Rattle.terminal_state.specs.StepResults.{StepResult}
use Rattle.terminal_state.specs.StepResults as step_result

-- a decision is one online where the issuer's reply was read
abbrev pub ends_online : OnlineOutcome → Bool
ends_online Replied = true
ends_online Unable = false

-- what the cryptogram of this kind ends with
abbrev pub decision : OnlineOutcome → Kind → Ending
decision outcome Tc = Approved (ends_online outcome)
decision outcome Aac = Declined (ends_online outcome)
decision outcome Arqc = Declined (ends_online outcome)

-- what follows the second cryptogram: the templates 72
abbrev pub second_then : OnlineOutcome → List (List ℕ) → List StepResult → AcData → Rest StepResult
second_then outcome behind steps_done ac = scripts_behind (decision outcome ac.kind) behind (step_result.HasSecond ac ∷ steps_done)

-- the second GENERATE AC of this kind, over the data of CDOL2
unfoldable pub second : TransactionData → OnlineOutcome → Kind → List (List ℕ) → List StepResult → Rest StepResult
second transaction outcome asked behind steps_done =
    card_step (cut_off steps_done) step.Second step.Second steps_done
    (generated 0x8D asked generate.Second (list_data 0x8D transaction.card (objects_at transaction steps_done)))
    (second_then outcome behind steps_done)
