-- A step over the answers of a card comes to what it finds, and the dialogue goes on behind it.
use Rattle.std.proofs.Common.{◌≡◌, ℕ, List, [], ◌∷◌, ap, sym, ◌∙◌}
use Rattle.card_files.specs.Views.{ImageData}
use Rattle.dialogue_laws.proofs.Ends.{Ends, asks as ends_asks, ends_as}
use Rattle.dialogue_laws.specs.Cards.{Now, says, goes}
use Rattle.emv_dict.specs.Progress.{Progress, Wants, Done}
use Rattle.emv_dict.specs.declared.ending.Step.{Step}
use Rattle.emv_dict.specs.declared.purchase.Logged.{Logged}
use Rattle.kernel.proofs.Courses.{wants, taken, done as is_done}
use Rattle.kernel.specs.StepsInTurn.{Standing, Rest, card_step}
use Rattle.terminal_state.specs.StepResults.{StepResult}

-- whatever the card answers, the step is done, and this holds of the card and of what was found
pub data Runs (image : ImageData) {A : Type 0} (Post : Now → A → Type 0) : Now → (List (List ℕ) → Progress A) → Type 0 where
  done : {now : Now} {course : List (List ℕ) → Progress A} (value : A) → ((later : List (List ℕ)) → course later ≡ Done value later) → Post now value →
      Runs image Post now course
  asks : {now : Now} {course : List (List ℕ) → Progress A} (command : List ℕ) → course [] ≡ Wants command →
      Runs image Post (goes image now command) (λ later. course (says image now command ∷ later)) → Runs image Post now course

-- so does any other that makes the same of all answers
pub runs_as : {image : ImageData} {A : Type 0} {Post : Now → A → Type 0} {now : Now} {course other : List (List ℕ) → Progress A}
    → ((later : List (List ℕ)) → course later ≡ other later) → Runs image Post now course → Runs image Post now other
runs_as same (done value is post) = done value (λ later. sym (same later) ∙ is later) post
runs_as {image} {A} {Post} {now} same (asks command is runs) =
    asks command (sym (same []) ∙ is) (runs_as (λ later. same (says image now command ∷ later)) runs)

-- what holds of the outcome may be said in other words
pub runs_to : {image : ImageData} {A : Type 0} {Post Other : Now → A → Type 0} {now : Now} {course : List (List ℕ) → Progress A}
    → ((at : Now) (value : A) → Post at value → Other at value) → Runs image Post now course → Runs image Other now course
runs_to {image} {A} {Post} {Other} {now} so (done value is post) = done value is (so now value post)
runs_to so (asks command is runs) = asks command is (runs_to so runs)

module _ {image : ImageData} {A : Type 0} {Post : Now → A → Type 0} (left : Step → (List (List ℕ) → Progress A) → Standing StepResult) (step : Step)
    (steps_done : List StepResult) (next : A → Rest StepResult) where
  -- where what follows the step ends with a decision, so does the dialogue from the step on
  pub chain : (cut : Step) (course : List (List ℕ) → Progress A) {now : Now} → Runs image Post now course
      → ((at : Now) (value : A) → Post at value → (log : List Logged) → Ends image at (next value log))
      → (log : List Logged) → Ends image now (card_step left cut step steps_done course next log)
  chain cut course {now} (done value is post) rest log =
      ends_as (λ later. sym (is_done left cut step steps_done course next value is log later)) (rest now value post log)
  chain cut course {now} (asks command is runs) rest log =
      ends_asks command (ap (λ (s : Standing StepResult). s.deed) (wants left cut step steps_done course next log command is))
      (λ at. ends_as (λ later. sym (taken left cut step steps_done course next log command is (says image now command) at later))
      (chain step (λ answers. course (says image now command ∷ answers)) runs rest at))
