-- Initiating the application's processing: GET PROCESSING OPTIONS (EMV 4.3 Book 3 section 10.1).
use Rattle.std.specs.Prelude.{[], Option, Some, None}
use Rattle.app_select.specs.Selecting.{SelectedData}
use Rattle.emv_dict.specs.declared.ending.Step.TheVariants as step
use Rattle.emv_dict.specs.declared.purchase.AidRow.{AidRow}
use Rattle.kernel.specs.StepsInTurn.{Rest, card_step, cut_off}
use Rattle.kernel.specs.ReadApplicationData.{read}
use Rattle.read_records.specs.Options.{Opened, initiating}
use Rattle.terminal_state.specs.StepResults.{StepResult, state_so_far}
use Rattle.terminal_state.specs.Terminal.{Outset, terminal_objects}

-- GET PROCESSING OPTIONS; a card that refuses the application is asked for the others
abbrev pub granted : Outset → AidRow → Rest StepResult → Option Opened → Rest StepResult
granted outset row others None = others
granted outset row others (Some opened) = read outset row opened

unfoldable pub initiation : Outset → SelectedData → Rest StepResult → Rest StepResult
initiation outset selected others =
    card_step (cut_off []) step.Initiate step.Initiate []
    (initiating selected.pdol (terminal_objects outset selected.row (state_so_far [])))
    (granted outset selected.row others)
