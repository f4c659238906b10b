-- What a stage makes of the card's answer.
use Rattle.std.proofs.Common.{◌≡◌, ◌∙◌, ℕ, List, [], ◌∷◌, Some, None}
use Rattle.emv_dict.specs.Progress.{Progress, Wants}
use Rattle.emv_dict.specs.declared.ending.Step.{Step}
use Rattle.emv_dict.specs.declared.purchase.Logged.{Logged}
use Rattle.kernel.proofs.Courses.{taken}
use Rattle.kernel.specs.StepsInTurn.{Standing, Rest, card_step, cut_off}
use Rattle.kernel.specs.Reply.{Reply, CardSaid}
use Rattle.kernel.specs.Stages.{Begins}
use Rattle.object_lists.specs.CardRead.{ReadCard}
use Rattle.terminal_state.specs.StepResults.{StepResult, state_so_far, latest, sets_card}
use Rattle.terminal_state.specs.declared.table.Table.{Table}

-- the step that waits goes on behind it
pub begins_taken : {A : Type 0} → (t : Table) → (card : ReadCard) → (step : Step) → (steps_done : List StepResult) → (log now : List Logged) → (course : List (List ℕ) → Progress A) → (next : A → Rest StepResult) → (command : List ℕ) → (rest : List Reply → Standing StepResult) → ((later : List Reply) → rest later ≡ card_step (cut_off steps_done) step step steps_done course next log later) → t.state_so_far ≡ state_so_far steps_done → latest sets_card None steps_done ≡ Some card → course [] ≡ Wants command → (answer : List ℕ) → Begins t card steps_done (λ later. rest (CardSaid answer now ∷ later)) (card_step (cut_off steps_done) step step steps_done (λ later. course (answer ∷ later)) next now)
begins_taken t card step steps_done log now course next command rest passed tied read wants answer = record {
  passed = λ later. passed (CardSaid answer now ∷ later) ∙ taken (cut_off steps_done) step step steps_done course next log command wants answer now later;
  tied = tied;
  read = read;
}
