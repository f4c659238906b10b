-- Card action analysis: the first GENERATE AC, and what its cryptogram decides (EMV 4.3 Book 3 section 10.8).
use Rattle.std.specs.Prelude.{false, List, ◌∷◌}
use Rattle.emv_dict.specs.Views.{AcData}
use Rattle.emv_dict.specs.declared.ending.Ending.TheVariants.{Approved, Declined}
use Rattle.emv_dict.specs.declared.ending.Kind.{Kind}
use Rattle.emv_dict.specs.declared.ending.Kind.TheVariants.{Aac, Tc, Arqc}
use Rattle.emv_dict.specs.declared.ending.Step.TheVariants as step
use Rattle.kernel.specs.StepsInTurn.{Rest, over, card_step, cut_off}
use Rattle.kernel.specs.OnlineProcessing.{online}
use Rattle.kernel.specs.StepBasis.{TransactionData, objects_at}
use Rattle.online_step.specs.Generate.{generated, list_data}
use Rattle.online_step.specs.declared.ac.GenerateAc.TheVariants as generate
use Rattle.terminal_state.specs.StepResults.{StepResult}
use Rattle.terminal_state.specs.StepResults as step_result

abbrev pub first_answered : TransactionData → AcData → List StepResult → Kind → Rest StepResult
first_answered transaction ac steps_done Tc = over steps_done (Approved false)
first_answered transaction ac steps_done Aac = over steps_done (Declined false)
first_answered transaction ac steps_done Arqc = online transaction ac steps_done

-- what follows the first cryptogram, by its kind
abbrev pub first_then : TransactionData → List StepResult → AcData → Rest StepResult
first_then transaction steps_done ac = first_answered transaction ac (step_result.HasFirst ac ∷ steps_done) ac.kind

-- the first GENERATE AC of this kind, over the data of CDOL1
unfoldable pub first : TransactionData → Kind → List StepResult → Rest StepResult
first transaction asked steps_done =
    card_step (cut_off steps_done) step.First step.First steps_done
    (generated 0x8C asked generate.First (list_data 0x8C transaction.card (objects_at transaction steps_done)))
    (first_then transaction steps_done)
