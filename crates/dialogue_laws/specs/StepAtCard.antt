-- A step of a terminal at a card that is on.
use Rattle.std.specs.Prelude.{◌≡◌, ℕ, List, [], ◌∷◌}
use Rattle.card_files.specs.Views.{ImageData}
use Rattle.dialogue_laws.specs.Cards.{Now, says, goes}
use Rattle.emv_dict.specs.Progress.{Progress, Wants, Done}

-- the card answers each command that the step wants, and the step is done with this value
pub data ComesTo (image : ImageData) {A : Type 0} (value : A) : Now → (List (List ℕ) → Progress A) → Type 0 where
  done : {now : Now} {course : List (List ℕ) → Progress A} → ((later : List (List ℕ)) → course later ≡ Done value later) → ComesTo image value now course
  asks : {now : Now} {course : List (List ℕ) → Progress A} (command : List ℕ) → course [] ≡ Wants command
      → ComesTo image value (goes image now command) (λ later. course (says image now command ∷ later)) → ComesTo image value now course
