-- How the steps from verification to the first cryptogram follow one another.
use Rattle.std.proofs.Common.{◌≡◌, ◌∙◌, ℕ, List, None}
use Rattle.emv_dict.specs.Progress.{Progress, Stopped, Done}
use Rattle.emv_dict.specs.declared.ending.Cause.{Cause}
use Rattle.emv_dict.specs.declared.ending.Ending.TheVariants.{Terminated}
use Rattle.emv_dict.specs.declared.ending.Step.{Step}
use Rattle.emv_dict.specs.declared.purchase.Logged.{Logged}
use Rattle.kernel.proofs.Courses.{done, stopped}
use Rattle.kernel.specs.StepsInTurn.{Standing, Rest, card_step, cut_off}
use Rattle.kernel.specs.Dialogue.{TransactionData}
use Rattle.kernel.specs.Reply.{Reply}
use Rattle.kernel.specs.Stages.{TradingStands, Begins}
use Rattle.kernel.specs.declared.stage.Trading.TheVariants as trading
use Rattle.object_lists.specs.CardRead.{ReadCard}
use Rattle.terminal_state.specs.StepResults.{StepResult, state_so_far, latest, sets_card}
use Rattle.terminal_state.specs.declared.table.Table.{Table}

-- the step is over for a cause
pub trading_stopped : {A : Type 0} → (t t2 : Table) → (transaction : TransactionData) → (step : Step) → (steps_done : List StepResult) → (log : List Logged) → (course : List (List ℕ) → Progress A) → (next : A → Rest StepResult) → (cause : Cause) → (rest : List Reply → Standing StepResult) → t2.state_so_far ≡ t.state_so_far → Begins t transaction.card steps_done rest (card_step (cut_off steps_done) step step steps_done course next log) → ((later : List (List ℕ)) → course later ≡ Stopped cause) → TradingStands t2 transaction (trading.Over (Terminated step cause)) log rest
trading_stopped t t2 transaction step steps_done log course next cause rest kept begins is = record {
  steps_done = steps_done;
  passed = λ later. begins.passed later ∙ stopped (cut_off steps_done) step step steps_done course next cause is log later;
  tied = kept ∙ begins.tied;
  read = begins.read;
  shows = tt;
}

-- the step is done, and the next one begins behind its result
pub begins_next : {A : Type 0} → (t t2 : Table) → (card : ReadCard) → (step : Step) → (steps_done marks2 : List StepResult) → (log : List Logged) → (course : List (List ℕ) → Progress A) → (next : A → Rest StepResult) → (value : A) → (rest : List Reply → Standing StepResult) → t2.state_so_far ≡ state_so_far marks2 → latest sets_card None marks2 ≡ latest sets_card None steps_done → Begins t card steps_done rest (card_step (cut_off steps_done) step step steps_done course next log) → ((later : List (List ℕ)) → course later ≡ Done value later) → Begins t2 card marks2 rest (next value log)
begins_next t t2 card step steps_done marks2 log course next value rest tied kept begins is = record {
  passed = λ later. begins.passed later ∙ done (cut_off steps_done) step step steps_done course next value is log later;
  tied = tied;
  read = kept ∙ begins.read;
}
