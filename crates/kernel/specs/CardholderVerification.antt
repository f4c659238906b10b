-- Cardholder verification (EMV 4.3 Book 3 section 10.5).
use Rattle.std.specs.Prelude.{List, ◌∷◌}
use Rattle.cvm_list.specs.Begun.{cvm}
use Rattle.emv_dict.specs.declared.ending.Step.TheVariants as step
use Rattle.emv_dict.specs.declared.verified.Verified.{Verified}
use Rattle.kernel.specs.StepsInTurn.{Rest, card_step, cut_off}
use Rattle.kernel.specs.StepBasis.{TransactionData}
use Rattle.kernel.specs.TerminalRiskManagement.{risk}
use Rattle.terminal_state.specs.StepResults.{StepResult}
use Rattle.terminal_state.specs.StepResults as step_result

-- what follows verification: risk management
abbrev pub verified_then : TransactionData → List StepResult → Verified → Rest StepResult
verified_then transaction steps_done verified = risk transaction (step_result.HasVerified verified ∷ steps_done)

unfoldable pub verification : TransactionData → List StepResult → Rest StepResult
verification transaction steps_done =
    card_step (cut_off steps_done) step.Verify step.Verify steps_done (cvm transaction.card transaction.outset.settings transaction.outset.purchase)
    (verified_then transaction steps_done)
