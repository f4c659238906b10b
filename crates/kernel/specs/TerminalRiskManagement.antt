-- Terminal risk management (EMV 4.3 Book 3 section 10.6).
use Rattle.std.specs.Prelude.{List, ◌∷◌}
use Rattle.emv_dict.specs.declared.ending.Step.TheVariants as step
use Rattle.emv_dict.specs.declared.judged.Judged.{Judged}
use Rattle.kernel.specs.StepsInTurn.{Rest, card_step, cut_off}
use Rattle.kernel.specs.StepBasis.{TransactionData}
use Rattle.kernel.specs.TerminalActionAnalysis.{analysis}
use Rattle.risk_mgmt.specs.Risky.{risky}
use Rattle.terminal_state.specs.StepResults.{StepResult}
use Rattle.terminal_state.specs.StepResults as step_result

-- what follows risk management: action analysis
abbrev pub judged_then : TransactionData → List StepResult → Judged → Rest StepResult
judged_then transaction steps_done judged = analysis transaction (step_result.HasJudged judged ∷ steps_done)

-- risk management looks into the log as it is when it begins
unfoldable pub risk : TransactionData → List StepResult → Rest StepResult
risk transaction steps_done log replies =
    card_step (cut_off steps_done) step.Risk step.Risk steps_done
    (risky transaction.card transaction.outset.settings transaction.row transaction.outset.purchase log)
    (judged_then transaction steps_done) log replies
