-- What application selection leads to: the application that is chosen, and the candidates that are left (EMV 4.3 Book 1
-- section 12).
use Rattle.std.specs.Prelude.{List, [], ◌∷◌, Option, Some, None}
use Rattle.app_select.specs.Candidates.{CandidateData}
use Rattle.app_select.specs.Selecting.{SelectedData, final}
use Rattle.emv_dict.specs.declared.ending.Cause.TheVariants.{NoCandidate}
use Rattle.emv_dict.specs.declared.ending.Ending.TheVariants.{Terminated}
use Rattle.emv_dict.specs.declared.ending.Step.TheVariants as step
use Rattle.kernel.specs.StepsInTurn.{Rest, over, card_step, cut_off}
use Rattle.kernel.specs.InitiateProcessing.{initiation}
use Rattle.terminal_state.specs.StepResults.{StepResult}
use Rattle.terminal_state.specs.Terminal.{Outset}

abbrev pub initiation_or : Outset → Rest StepResult → Option SelectedData → Rest StepResult
initiation_or outset others None = others
initiation_or outset others (Some selected) = initiation outset selected others

-- the candidates that are left, each in turn
unfoldable pub candidates_left : Outset → List CandidateData → Rest StepResult
candidates_left outset [] = over [] (Terminated step.Select NoCandidate)
candidates_left outset (candidate ∷ left) =
    card_step (cut_off []) step.Select step.Select [] (final candidate left) (initiation_or outset (candidates_left outset left))

-- what follows the application that is selected: its initiation, and where it refuses, the other candidates
abbrev pub selected_then : Outset → SelectedData → Rest StepResult
selected_then outset selected = initiation outset selected (candidates_left outset selected.left)
