-- Application selection as a step over the card's answers (EMV 4.3 Book 1 sections 12.3.3 and 12.4).
use Rattle.std.specs.Prelude.{ℕ, List, [], ◌∷◌, ◌++◌, ◌==◌, Bool, Option, Some, None, if◌then◌else◌}
use Rattle.app_select.specs.Candidates.{CandidateData, candidates}
use Rattle.app_select.specs.Listed.{listed, first_fault, candidates_in}
use Rattle.app_select.specs.Said.{SaidData, Unreadable, Blocked, Named, Nothing, select_said, select_command}
use Rattle.emv_dict.specs.Progress.{Progress, Wants, Stopped, Done}
use Rattle.emv_dict.specs.declared.ending.Cause.{Cause}
use Rattle.emv_dict.specs.declared.ending.Cause.TheVariants.{Answer, NoCandidate}
use Rattle.emv_dict.specs.declared.purchase.AidRow.{AidRow}

-- the application that is selected: its row, its object list (9F38), and the candidates behind it
pub record SelectedData : Type 0 where
  pub row : AidRow
  pub pdol : Option (List ℕ)
  pub left : List CandidateData

-- an answer to the final SELECT of a candidate: it is selected with 9000 and a readable FCI, and
-- dropped otherwise
abbrev pub final_by : CandidateData → List CandidateData → SaidData → List (List ℕ) → Progress (Option SelectedData)
final_by candidate left Unreadable rest = Stopped Answer
final_by candidate left Blocked rest = Done None rest
final_by candidate left (Named is_valid fci) rest =
    Done (if is_valid then Some (record { row = candidate.row; pdol = fci.pdol; left = left }) else None) rest
final_by candidate left Nothing rest = Done None rest

-- the final SELECT of one candidate, with those behind it; none where it is dropped
abbrev pub final : CandidateData → List CandidateData → List (List ℕ) → Progress (Option SelectedData)
final candidate left [] = Wants (select_command 0 candidate.name)
final candidate left (answer ∷ rest) = final_by candidate left (select_said answer) rest

-- what was found, or else what comes of the later answers
abbrev pub or_else : {A : Type 0} → Progress (Option A) → (List (List ℕ) → Progress A) → Progress A
or_else (Wants command) next = Wants command
or_else (Stopped cause) next = Stopped cause
or_else (Done (Some value) rest) next = Done value rest
or_else (Done None rest) next = next rest

-- the first of these candidates that is selected
abbrev pub first_selected : List CandidateData → List (List ℕ) → Progress SelectedData
first_selected [] answers = Stopped NoCandidate
first_selected (candidate ∷ left) answers = or_else (final candidate left answers) (first_selected left)

-- the SELECT of the first row that is left; behind the list what follows it
abbrev pub once_listed : {A : Type 0} → List AidRow → ℕ → Progress A → Progress A
once_listed [] turn next = next
once_listed (row ∷ rows) turn next = Wants (select_command (if turn == 0 then 0 else 2) row.name)

abbrev pub stopped_by : {A : Type 0} → Option Cause → Progress A → Progress A
stopped_by None next = next
stopped_by (Some cause) next = Stopped cause

-- a state of the list: the applications found so far, the rows that are left, and the number of the
-- occurrence that the first of them is asked for
pub record ListingData : Type 0 where
  pub found : List CandidateData
  pub rows : List AidRow
  pub turn : ℕ
  pub confirm : Bool

-- what is left of the list, then the final SELECTs
unfoldable pub listing : ListingData → List (List ℕ) → Progress SelectedData
listing state answers =
    let list = listed state.rows state.turn answers in
    stopped_by (first_fault list.answers)
    (once_listed list.left list.turn (first_selected (candidates state.confirm (state.found ++ candidates_in list.answers)) list.rest))

-- the step over the answers, for a terminal with these rows where an application can be confirmed, or cannot
abbrev pub selecting : List AidRow → Bool → List (List ℕ) → Progress SelectedData
selecting rows confirm answers = listing (record { found = []; rows = rows; turn = 0; confirm = confirm }) answers
