-- A card that is on, by what it has decided and what was said since power-up.
use Rattle.std.specs.Prelude.{ℕ, List, [], ◌∷◌, ◌++◌}
use Rattle.card_app.specs.Answering.{card_answer}
use Rattle.card_app.specs.Session.{Exchange}
use Rattle.card_files.specs.Views.{ImageData}
use Rattle.card_app.specs.PageReplies.{CardAnswer}
use Rattle.card_state.specs.Decisions.{Decided}

-- its decisions since it was made, and the commands and answers since power-up
pub record Now : Type 0 where
  pub kept : List Decided
  pub session : List Exchange

-- powered up, with these decisions found
abbrev pub powered_with : List Decided → Now
powered_with found = record { kept = found; session = [] }

-- what it decides and answers
abbrev pub answer_of : ImageData → Now → List ℕ → CardAnswer
answer_of image now command = card_answer image now.kept now.session command

abbrev pub says : ImageData → Now → List ℕ → List ℕ
says image now command = (answer_of image now command).answer

-- the card behind the command
abbrev pub goes : ImageData → Now → List ℕ → Now
goes image now command = record {
  kept = now.kept ++ (answer_of image now command).new;
  session = now.session ++ record { command = command; answer = says image now command } ∷ [];
}
