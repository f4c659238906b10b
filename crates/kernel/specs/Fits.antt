-- What holds of the table before the card is read, whatever was said: what was dealt is within its ranges, and no step
-- is finished.
use Rattle.std.specs.Prelude.{◌≡◌, ◌≤◌, ⊤, List, [], length}
use Rattle.app_select.specs.Leading.{HasRoomForCandidates}
use Rattle.emv_dict.specs.Settings.{IsAidRow}
use Rattle.emv_dict.specs.declared.purchase.AidRow.{AidRow}
use Rattle.emv_dict.specs.declared.purchase.Logged.{Logged}
use Rattle.kernel.specs.StepsInTurn.{Standing}
use Rattle.kernel.specs.Dialogue.{restrictions}
use Rattle.kernel.specs.Reply.{Reply}
use Rattle.kernel.specs.Stages.{OpeningStands}
use Rattle.kernel.specs.declared.stage.OpeningNext.{OpeningNext}
use Rattle.kernel.specs.declared.stage.OpeningNext.TheVariants as next
use Rattle.kernel.specs.declared.stage.AtSelect.{AtSelect}
use Rattle.kernel.specs.declared.stage.Opening.{Opening}
use Rattle.kernel.specs.declared.stage.Opening.TheVariants as opening
use Rattle.object_lists.specs.CardRead.{card_of_objects}
use Rattle.object_lists.specs.Forms.{HasForms}
use Rattle.object_lists.specs.Checked.{HasOptions}
use Rattle.read_records.specs.Afl.{most_records}
use Rattle.read_records.specs.Leading.{IsBegun, begun_next}
use Rattle.read_records.specs.declared.initiating.OptionsNext.{OptionsNext}
use Rattle.read_records.specs.declared.initiating.OptionsNext.TheVariants as options
use Rattle.terminal_state.specs.StepResults.{StepResult, state_so_far}
use Rattle.terminal_state.specs.Table.{IsOutset, outset_of}
use Rattle.terminal_state.specs.declared.table.Table.{Table}

-- no object is read yet
pub record IsUnread (t : Table) : Type 0 where
  pub outset : IsOutset (outset_of t)
  pub empty : t.objects ≡ []
  pub fresh : t.state_so_far ≡ state_so_far []

-- and there is room for the applications that are still to be found
pub record SelectFits (t : Table) (s : AtSelect) : Type 0 where
  pub unread : IsUnread t
  pub room : HasRoomForCandidates s.search t.candidates

-- the answer to GET PROCESSING OPTIONS was taken
pub record OptionsFit (t : Table) (n : OptionsNext) : Type 0 where
  pub outset : IsOutset (outset_of t)
  pub refused : n ≡ options.Refused → t.objects ≡ []
  pub begun : IsBegun n → HasOptions t.objects
  pub fresh : t.state_so_far ≡ state_so_far []
  pub few : length (begun_next n) ≤ most_records

-- it was read
pub record ReadFits (t : Table) (row : AidRow) : Type 0 where
  pub outset : IsOutset (outset_of t)
  pub options : HasOptions t.objects
  pub row_rules : IsAidRow row
  pub fresh : t.state_so_far ≡ state_so_far []

abbrev pub OpeningFits : Table → Opening → Type 0
OpeningFits t (opening.Directory s) = IsUnread t
OpeningFits t (opening.Select s) = SelectFits t s
OpeningFits t (opening.Initiate s) = IsUnread t
OpeningFits t (opening.Read s) = ReadFits t s.row.now
OpeningFits t (opening.Over ending) = ⊤

-- the card is read
pub record HasReadCard (t : Table) (row : AidRow) : Type 0 where
  pub outset : IsOutset (outset_of t)
  pub forms : HasForms t.objects
  pub row_rules : IsAidRow row
  pub fresh : t.state_so_far ≡ state_so_far []

abbrev pub NextFits : Table → OpeningNext → Type 0
NextFits t (next.On s) = OpeningFits t s
NextFits t (next.Read row) = HasReadCard t row.now

-- what is left of the dialogue is what this stage leaves, or the processing restrictions of the card that is read
abbrev pub NextStands : Table → OpeningNext → List Logged → (List Reply → Standing StepResult) → Type 0
NextStands t (next.On s) log rest = OpeningStands t s log rest
NextStands t (next.Read row) log rest =
    (later : List Reply) → rest later ≡ restrictions (record { outset = outset_of t; row = row.now; card = card_of_objects t.objects }) log later
