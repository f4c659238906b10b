-- What the calls of a card in its place make of it, and their lines.
use Rattle.std.specs.Prelude.{◌≡◌, ℕ, ◌+◌, Bool, true, false, List, slice_get, Option, Some, None}
use Rattle.card_app.specs.Answering.{card_answer}
use Rattle.card_app.specs.Cuts.{Cut, cut_of}
use Rattle.card_app.specs.Pages.{found_of}
use Rattle.card_state.specs.Decisions.{Decided}
use Rattle.emv_ports.specs.Cut.{names_commit}
use Rattle.emv_ports.specs.declared.tear.Tear.{Tear}
use Rattle.report_text.specs.declared.line.Line.{Line}
use Rattle.scenario_plan.specs.Cards.{CardData}
use Rattle.txn_replay.specs.Changes.{powered, exchanged, told_once, row_torn}
use Rattle.txn_replay.specs.Lines.{power_line, power_canned_line, torn_lines, gone_lines}
use Rattle.txn_replay.specs.RunCard.{RunCardSeen, RunCardOn, RunCardOff, HasLost}
use Rattle.txn_replay.specs.World.{Holder, CardRow}

-- no tear cuts the power-up of a card with applications; that of one of canned answers takes no truth value
abbrev pub IsSpared : Option Tear → Bool → Option (List (List ℕ)) → Type 0
IsSpared plan choice None = names_commit plan 0 ≡ false
IsSpared plan choice (Some answers) = choice ≡ false

-- it was powered up
pub record IsPowered (run_card : RunCardSeen) (card : CardData) (row : CardRow) (plan : Option Tear) (choice : Bool) : Type 0 where
  pub spared : IsSpared plan choice card.canned
  pub on : (holder : Option Holder) → RunCardOn run_card (powered row (found_of row.kept row.pending choice) holder) plan

-- or the tear has cut its power in commit 0
pub record IsLost (run_card : RunCardSeen) (card : CardData) (row : CardRow) (plan : Option Tear) : Type 0 where
  pub none : card.canned ≡ None
  pub cut : names_commit plan 0 ≡ true
  pub off : RunCardOff run_card row.kept row.pending
  pub losses : HasLost run_card (row.losses + 1)

-- the answer of a card with applications, none of whose decisions is cut, or the next canned one
abbrev pub AnswerIs : CardData → CardRow → Option Tear → List ℕ → List ℕ → Option (List (List ℕ)) → Type 0
AnswerIs card row plan command answer None =
    (cut_of plan row.made (card_answer card.image row.kept row.session command).new ≡ None) × (answer ≡ (card_answer card.image row.kept row.session command).answer)
AnswerIs card row plan command answer (Some answers) = slice_get answers row.told ≡ Some answer

abbrev pub answered_row : CardData → CardRow → List ℕ → Option (List (List ℕ)) → CardRow
answered_row card row command None = exchanged card.image row command (card_answer card.image row.kept row.session command)
answered_row card row command (Some answers) = told_once row

-- it has answered
pub record IsCommandAnswered (run_card : RunCardSeen) (card : CardData) (row : CardRow) (plan : Option Tear) (command answer : List ℕ) : Type 0 where
  pub said : AnswerIs card row plan command answer card.canned
  pub on : RunCardOn run_card (answered_row card row command card.canned) plan

-- the tear has cut one of its decisions
pub record IsCommandCut (run_card : RunCardSeen) (card : CardData) (row : CardRow) (plan : Option Tear) (command : List ℕ) (at : Cut) : Type 0 where
  pub cut : cut_of plan row.made (card_answer card.image row.kept row.session command).new ≡ Some at
  pub off : RunCardOff run_card (row_torn row plan at).kept (row_torn row plan at).pending
  pub losses : HasLost run_card (row.losses + 1)

-- no canned answer was left
pub record IsEmpty (run_card : RunCardSeen) (row : CardRow) (answers : List (List ℕ)) : Type 0 where
  pub none : slice_get answers row.told ≡ None
  pub off : RunCardOff run_card row.kept row.pending
  pub losses : HasLost run_card row.losses

-- it is gone in place of an answer
abbrev pub IsCardGone : RunCardSeen → CardData → CardRow → Option Tear → List ℕ → Option (List (List ℕ)) → Type 0
IsCardGone run_card card row plan command None = (at : Cut) × IsCommandCut run_card card row plan command at
IsCardGone run_card card row plan command (Some answers) = IsEmpty run_card row answers

-- the line of a power-up, and those of a command behind which the card is gone
abbrev pub powered_line : ℕ → CardData → List Decided → Option (List (List ℕ)) → Line
powered_line lane card found None = power_line lane card found
powered_line lane card found (Some answers) = power_canned_line lane card

abbrev pub no_answer_lines : ℕ → List ℕ → Option (List (List ℕ)) → List Line
no_answer_lines lane command None = torn_lines lane command
no_answer_lines lane command (Some answers) = gone_lines lane command
