-- The list of applications (EMV 4.3 Book 1 section 12.3.3): each AID of the terminal is selected, and
-- again for its next occurrence.
use Rattle.std.specs.Prelude.{ℕ, List, [], ◌∷◌, ◌+◌, ◌&&◌, Bool, false, nat_lt, Option, Some, None, if◌then◌else◌}
use Rattle.std.specs.List.{filter_map}
use Rattle.std.specs.Option.{option_or}
use Rattle.app_select.specs.Candidates.{CandidateData}
use Rattle.app_select.specs.Said.{SaidData, Unreadable, Blocked, Named, Nothing, select_said, cause_said, is_longer, is_supported}
use Rattle.emv_dict.specs.declared.ending.Cause.{Cause}
use Rattle.emv_dict.specs.declared.purchase.AidRow.{AidRow}

-- an answer to a SELECT of the list: the AID, the number of its occurrence from 0, and what it says
pub record AnswerData : Type 0 where
  pub row : AidRow
  pub turn : ℕ
  pub said : SaidData

-- the list's answers, the rows that are left with the number of the occurrence that the first of them
-- is asked for, and the answers behind those
pub record ListedData : Type 0 where
  pub answers : List AnswerData
  pub left : List AidRow
  pub turn : ℕ
  pub rest : List (List ℕ)

-- an AID is selected at most so often
abbrev pub most_occurrences : ℕ
most_occurrences = 16

-- the next occurrence is asked for: the name is longer than the AID and begins with it
abbrev pub has_next_occurrence : AidRow → ℕ → SaidData → Bool
has_next_occurrence row turn Unreadable = false
has_next_occurrence row turn Blocked = false
has_next_occurrence row turn (Named is_valid fci) = is_longer row.name fci.name && nat_lt (turn + 1) most_occurrences
has_next_occurrence row turn Nothing = false

abbrev pub answers_with : AnswerData → ListedData → ListedData
answers_with answer listed = record { answers = answer ∷ listed.answers; left = listed.left; turn = listed.turn; rest = listed.rest }

-- the answers by AID and occurrence, from this occurrence of the first row on
abbrev pub listed : List AidRow → ℕ → List (List ℕ) → ListedData
listed [] turn answers = record { answers = []; left = []; turn = turn; rest = answers }
listed (row ∷ rows) turn [] = record { answers = []; left = row ∷ rows; turn = turn; rest = [] }
listed (row ∷ rows) turn (answer ∷ later) =
    answers_with (record { row = row; turn = turn; said = select_said answer })
    (if has_next_occurrence row turn (select_said answer) then listed (row ∷ rows) (turn + 1) later else listed rows 0 later)

-- the first answer that ends the transaction
abbrev pub first_fault : List AnswerData → Option Cause
first_fault [] = None
first_fault (answer ∷ answers) = option_or (cause_said answer.said) (first_fault answers)

-- the application that an answer gives; none where it is invalidated or not supported
abbrev pub candidate_by : AidRow → SaidData → Option CandidateData
candidate_by row Unreadable = None
candidate_by row Blocked = None
candidate_by row (Named is_valid fci) =
    if is_valid && is_supported row.name row.partial fci.name
    then Some (record { row = row; name = fci.name; priority = fci.priority }) else None
candidate_by row Nothing = None

abbrev pub candidates_in : List AnswerData → List CandidateData
candidates_in answers = filter_map (λ answer. candidate_by answer.row answer.said) answers
