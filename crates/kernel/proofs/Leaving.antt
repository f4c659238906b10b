-- The card is gone once it is read.
use Rattle.std.proofs.Common.{◌≡◌, ◌∙◌, ℕ, List, [], ◌∷◌, Some, None}
use Rattle.emv_dict.specs.Progress.{Progress, Wants}
use Rattle.emv_dict.specs.declared.ending.Ending.TheVariants.{CutOff}
use Rattle.emv_dict.specs.declared.ending.Step.{Step}
use Rattle.emv_dict.specs.declared.purchase.Logged.{Logged}
use Rattle.kernel.proofs.Courses.{gone}
use Rattle.kernel.proofs.Deciding.{stands_over}
use Rattle.kernel.specs.StepsInTurn.{Standing, Rest, card_step, cut_off}
use Rattle.kernel.specs.Dialogue.{TransactionData}
use Rattle.kernel.specs.Reply.{Reply, CardGone}
use Rattle.kernel.specs.Stages.{TradingStands}
use Rattle.kernel.specs.declared.stage.Trading.TheVariants as trading
use Rattle.terminal_state.specs.StepResults.{StepResult, state_so_far, latest, sets_card}
use Rattle.terminal_state.specs.declared.table.Table.{Table}

-- the step that waits is cut off
pub trading_gone : {A : Type 0} → (t : Table) → (transaction : TransactionData) → (step : Step) → (steps_done : List StepResult) → (log : List Logged) → (course : List (List ℕ) → Progress A) → (next : A → Rest StepResult) → (command : List ℕ) → (rest : List Reply → Standing StepResult) → ((later : List Reply) → rest later ≡ card_step (cut_off steps_done) step step steps_done course next log later) → t.state_so_far ≡ state_so_far steps_done → latest sets_card None steps_done ≡ Some transaction.card → course [] ≡ Wants command → TradingStands t transaction (trading.Over (CutOff step)) log (λ later. rest (CardGone ∷ later))
trading_gone t transaction step steps_done log course next command rest passed tied read wants =
    stands_over t transaction steps_done log (λ later. rest (CardGone ∷ later)) (CutOff step)
    (λ later. passed (CardGone ∷ later) ∙ gone (cut_off steps_done) step step steps_done course next log command wants later) tied read
