-- The steps, chained, with the directory at first.
use Rattle.std.proofs.Common.{◌≡◌, ℕ, Bool, true, false, List, [], ◌∷◌, refl}
use Rattle.app_select.specs.Candidates.{CandidateData}
use Rattle.app_select.specs.Chosen.{Follow, chosen, first_through, followed}
use Rattle.app_select.specs.Selecting.{selecting}
use Rattle.app_select.proofs.Chains.{first_selected-followed, selecting-followed}
use Rattle.emv_dict.specs.Progress.{Progress, Wants, Stopped, Done}
use Rattle.emv_dict.specs.declared.purchase.AidRow.{AidRow}
use Rattle.pse_directory.specs.Chosen.{chosen_by}
use Rattle.pse_directory.specs.Directory.{directory, after_directory, by_directory, selecting_by}

module _ {A : Type 0} (follow : Follow A) (rows : List AidRow) (confirm : Bool) where
  directory-followed : (found : Progress (List CandidateData))
      → followed follow (by_directory rows confirm found) ≡ after_directory (first_through follow) (chosen follow rows confirm) found
  directory-followed (Wants command) = refl
  directory-followed (Stopped cause) = refl
  directory-followed (Done [] rest) = selecting-followed follow rows confirm rest
  directory-followed (Done (first ∷ behind) rest) = first_selected-followed follow (first ∷ behind) rest

  pub selecting_by-followed : (pse : Bool) (answers : List (List ℕ)) → followed follow (selecting_by pse rows confirm answers) ≡ chosen_by follow pse rows confirm answers
  unfolding selecting_by
  selecting_by-followed true answers = directory-followed (directory rows confirm answers)
  selecting_by-followed false answers = selecting-followed follow rows confirm answers

-- a terminal without the directory goes through the list
pub without_directory : (rows : List AidRow) (confirm : Bool) (answers : List (List ℕ)) → selecting_by false rows confirm answers ≡ selecting rows confirm answers
unfolding selecting_by
without_directory rows confirm answers = refl
