-- The states of selection, beside the list of the candidates, and what is left of it.
use Rattle.std.specs.Prelude.{⊤, ℕ, ◌+◌, ◌-◌, ◌*◌, ◌≤◌, Bool, List, ◌∷◌, length, Option}
use Rattle.app_select.specs.Candidates.{CandidateData}
use Rattle.app_select.specs.Listed.{most_occurrences}
use Rattle.app_select.specs.Selecting.{SelectedData, listing, first_selected}
use Rattle.emv_dict.specs.Progress.{Progress}
use Rattle.emv_dict.specs.declared.purchase.AidRow.{AidRow}

-- an answer to come is one to a SELECT of the list: the rows that are left, the number of the
-- occurrence that the first of them is asked for, and whether an application can be confirmed; or it is
-- one to the final SELECT of a candidate
pub data SearchData : Type 0 where
  Listed : List AidRow → ℕ → Bool → SearchData
  Final : CandidateData → SearchData

-- what selection makes of the answers to come, with the candidates found so far, or with those behind
-- the one that is asked for
abbrev pub rest_with : SearchData → List CandidateData → List (List ℕ) → Progress SelectedData
rest_with (Listed rows turn confirm) found = listing (record { found = found; rows = rows; turn = turn; confirm = confirm })
rest_with (Final candidate) left = first_selected (candidate ∷ left)

-- the most answers to SELECT that are still taken: each one of the list may give a candidate
abbrev pub search_answers_left : SearchData → List CandidateData → ℕ
search_answers_left (Listed rows turn confirm) found = 2 * (most_occurrences * length rows - turn) + length found
search_answers_left (Final candidate) left = 1 + length left

-- the list's answers to come find no more applications than there is room for
abbrev pub HasRoomForCandidates : SearchData → List CandidateData → Type 0
HasRoomForCandidates (Listed rows turn confirm) found = length found + most_occurrences * length rows ≤ 256 + turn
HasRoomForCandidates (Final candidate) left = ⊤

-- an application that is selected: its row and its object list (9F38)
pub record ChoiceData : Type 0 where
  pub row : AidRow
  pub pdol : Option (List ℕ)

abbrev pub selected_with : ChoiceData → List CandidateData → SelectedData
selected_with choice left = record { row = choice.row; pdol = choice.pdol; left = left }

-- a state with its candidates
pub record SelectingData : Type 0 where
  pub search : SearchData
  pub candidates : List CandidateData

-- what a state of selection makes of the answers to come
abbrev pub selecting_rest : SelectingData → List (List ℕ) → Progress SelectedData
selecting_rest state = rest_with state.search state.candidates
