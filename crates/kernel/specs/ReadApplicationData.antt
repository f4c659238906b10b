-- Reading the application's data (EMV 4.3 Book 3 section 10.2).
use Rattle.std.specs.Prelude.{[]}
use Rattle.emv_dict.specs.declared.ending.Step.TheVariants as step
use Rattle.emv_dict.specs.declared.purchase.AidRow.{AidRow}
use Rattle.kernel.specs.StepsInTurn.{Rest, card_step, cut_off}
use Rattle.kernel.specs.ProcessingRestrictions.{restrictions}
use Rattle.object_lists.specs.CardRead.{ReadCard}
use Rattle.read_records.specs.DataRead.{reading}
use Rattle.read_records.specs.Options.{Opened}
use Rattle.terminal_state.specs.StepResults.{StepResult}
use Rattle.terminal_state.specs.Terminal.{Outset}

-- what follows reading: the processing restrictions
abbrev pub read_then : Outset → AidRow → ReadCard → Rest StepResult
read_then outset row card = restrictions (record { outset = outset; row = row; card = card })

unfoldable pub read : Outset → AidRow → Opened → Rest StepResult
read outset row opened =
    card_step (cut_off []) step.Read step.Read [] (reading opened)
    (read_then outset row)
