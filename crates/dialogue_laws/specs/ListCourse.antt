-- The candidates of the list of AIDs as a step over the card's answers (EMV 4.3 Book 1 section 12.3.3; section 12.4).
use Rattle.std.specs.Prelude.{◌≡◌, ℕ, List, Bool}
use Rattle.app_select.specs.Candidates.{CandidateData, candidates}
use Rattle.app_select.specs.Listed.{listed, first_fault, candidates_in}
use Rattle.app_select.specs.Selecting.{SelectedData, once_listed, stopped_by, first_selected, selecting}
use Rattle.emv_dict.specs.Progress.{Progress, Wants, Stopped, Done}
use Rattle.emv_dict.specs.declared.purchase.AidRow.{AidRow}
use Rattle.pse_directory.specs.Directory.{done}

-- application selection by the list, up to its candidates
unfoldable pub list_candidates : List AidRow → Bool → List (List ℕ) → Progress (List CandidateData)
list_candidates rows confirm answers =
    let list = listed rows 0 answers in
    stopped_by (first_fault list.answers) (once_listed list.left list.turn (done (candidates confirm (candidates_in list.answers)) list.rest))

-- the final SELECTs of the candidates
abbrev pub then_opening : Progress (List CandidateData) → Progress SelectedData
then_opening (Wants command) = Wants command
then_opening (Stopped cause) = Stopped cause
then_opening (Done found rest) = first_selected found rest

-- with these, it is the whole selection
abbrev pub ListOpens : Type 0
ListOpens =
    (rows : List AidRow) (confirm : Bool) (answers : List (List ℕ)) → selecting rows confirm answers ≡ then_opening (list_candidates rows confirm answers)
