-- The processing restrictions (EMV 4.3 Book 3 section 10.4).
use Rattle.std.specs.Prelude.{[], ◌∷◌}
use Rattle.kernel.specs.CardholderVerification.{verification}
use Rattle.kernel.specs.StepsInTurn.{Rest}
use Rattle.kernel.specs.StepBasis.{TransactionData}
use Rattle.restrictions.specs.Restricted.{restricted}
use Rattle.terminal_state.specs.StepResults.{StepResult}
use Rattle.terminal_state.specs.StepResults as step_result

-- the card is read; processing restrictions ask it nothing
unfoldable pub restrictions : TransactionData → Rest StepResult
restrictions transaction =
    verification transaction
    (step_result.HasRestricted (restricted transaction.card transaction.outset.settings transaction.row transaction.outset.purchase) ∷ step_result.HasRead transaction.card ∷ [])
