-- The states of selection by the directory, and what is left of it.
use Rattle.std.specs.Prelude.{ℕ, ◌+◌, ◌-◌, ◌*◌, Bool, List}
use Rattle.app_select.specs.Candidates.{CandidateData}
use Rattle.app_select.specs.Selecting.{SelectedData}
use Rattle.emv_dict.specs.Progress.{Progress}
use Rattle.emv_dict.specs.declared.purchase.AidRow.{AidRow}
use Rattle.pse_directory.specs.Directory.{directory, records, by_directory}

-- the answer to come is that to SELECT of the directory; or that for this record of this file, behind these candidates
pub data PlaceData : Type 0 where
  AtName : PlaceData
  AtRecord : ℕ → ℕ → List CandidateData → PlaceData

-- with the terminal's rows, and whether an application can be confirmed
pub record DirectoryData : Type 0 where
  pub rows : List AidRow
  pub confirm : Bool
  pub place : PlaceData

abbrev pub directory_left_at : List AidRow → Bool → PlaceData → List (List ℕ) → Progress (List CandidateData)
directory_left_at rows confirm AtName = directory rows confirm
directory_left_at rows confirm (AtRecord sfi number found) = records rows confirm sfi number found

-- what the directory's answers to come give
abbrev pub directory_left : DirectoryData → List (List ℕ) → Progress (List CandidateData)
directory_left state = directory_left_at state.rows state.confirm state.place

-- what selection makes of the answers to come
abbrev pub directory_rest : DirectoryData → List (List ℕ) → Progress SelectedData
directory_rest state answers = by_directory state.rows state.confirm (directory_left state answers)

-- the most answers for the directory that are still taken: that to SELECT, and 255 records
abbrev pub directory_answers : PlaceData → ℕ
directory_answers AtName = 256
directory_answers (AtRecord sfi number found) = 256 - number

-- and behind them those of the list
abbrev pub directory_answers_left : DirectoryData → ℕ
directory_answers_left state = directory_answers state.place + (16 * 16 + 256)
