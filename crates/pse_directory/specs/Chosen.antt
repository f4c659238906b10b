-- The chosen application, with the directory at first (EMV 4.3 Book 1 section 12 and Book 3 section 10.1).
use Rattle.std.specs.Prelude.{ℕ, Bool, List, if◌then◌else◌}
use Rattle.app_select.specs.Chosen.{Follow, chosen, first_through}
use Rattle.app_select.specs.Selecting.{SelectedData}
use Rattle.emv_dict.specs.Progress.{Progress}
use Rattle.emv_dict.specs.declared.purchase.AidRow.{AidRow}
use Rattle.pse_directory.specs.Directory.{directory, after_directory}

-- the first of the directory's candidates with which the final SELECT and what follows it go through; where it gives
-- none, that of the list
abbrev pub chosen_by : {A : Type 0} → Follow A → Bool → List AidRow → Bool → List (List ℕ) → Progress (SelectedData × A)
chosen_by follow pse rows confirm answers =
    if pse then after_directory (first_through follow) (chosen follow rows confirm) (directory rows confirm answers)
    else chosen follow rows confirm answers
