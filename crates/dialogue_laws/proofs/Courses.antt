-- A step at a card, in other words.
use Rattle.std.proofs.Common.{◌≡◌, ℕ, List, [], ◌∷◌, sym, ◌∙◌}
use Rattle.card_files.specs.Views.{ImageData}
use Rattle.dialogue_laws.specs.Cards.{Now, says}
use Rattle.dialogue_laws.specs.StepAtCard.{ComesTo, done, asks}
use Rattle.emv_dict.specs.Progress.{Progress}

-- another step that makes the same of all answers comes to the same
pub comes_as : {image : ImageData} {A : Type 0} {value : A} {now : Now} {course other : List (List ℕ) → Progress A}
    → ((later : List (List ℕ)) → course later ≡ other later) → ComesTo image value now course → ComesTo image value now other
comes_as same (done is) = done (λ later. sym (same later) ∙ is later)
comes_as {image} {A} {value} {now} same (asks command is comes) = asks command (sym (same []) ∙ is) (comes_as (λ later. same (says image now command ∷ later)) comes)
