-- Terminal action analysis: which cryptogram is asked for first (EMV 4.3 Book 3 section 10.7).
use Rattle.std.specs.Prelude.{List, ◌∷◌}
use Rattle.action_analysis.specs.Analysed.{codes_of, wanted}
use Rattle.emv_dict.specs.declared.ending.Kind.{Kind}
use Rattle.kernel.specs.CardActionAnalysis.{first}
use Rattle.kernel.specs.StepsInTurn.{Rest}
use Rattle.kernel.specs.StepBasis.{TransactionData}
use Rattle.terminal_state.specs.StepResults.{StepResult, analysed_by, state_so_far}
use Rattle.terminal_state.specs.StepResults as step_result

-- the kind that action analysis asks for
abbrev pub kind_wanted : TransactionData → List StepResult → Kind
kind_wanted transaction steps_done = wanted (state_so_far steps_done).tvr (codes_of transaction.card transaction.row) transaction.outset.settings.kind

unfoldable pub analysis : TransactionData → List StepResult → Rest StepResult
analysis transaction steps_done = first transaction (kind_wanted transaction steps_done) (step_result.HasAnalysed (analysed_by transaction.row (kind_wanted transaction steps_done)) ∷ steps_done)
