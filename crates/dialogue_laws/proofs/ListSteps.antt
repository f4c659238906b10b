-- The list of AIDs, answer by answer.
use Rattle.std.proofs.Common.{◌≡◌, ℕ, ◌+◌, Bool, true, false, List, [], ◌∷◌, ◌++◌, Option, Some, None, refl, sym, ap, ◌∙◌, append_assoc, append-nil, if◌then◌else◌}
use Rattle.std.specs.List.{cons_option}
use Rattle.std.specs.Option.{option_or, option_to_list}
use Rattle.app_select.specs.Candidates.{CandidateData, candidates}
use Rattle.app_select.specs.Listed.{AnswerData, ListedData, has_next_occurrence, answers_with, listed, first_fault, candidate_by, candidates_in}
use Rattle.app_select.specs.Said.{SaidData, select_said, cause_said}
use Rattle.app_select.specs.Selecting.{first_selected, once_listed, stopped_by, listing}
use Rattle.dialogue_laws.specs.ListCourse.{list_candidates, then_opening, ListOpens}
use Rattle.emv_dict.specs.Progress.{Progress}
use Rattle.emv_dict.specs.declared.ending.Cause.{Cause}
use Rattle.emv_dict.specs.declared.purchase.AidRow.{AidRow}
use Rattle.pse_directory.specs.Directory.{done as is_done}

-- what comes of the numbered answers and of those behind them, with what was found before
told_list : Bool → List CandidateData → ListedData → Progress (List CandidateData)
told_list confirm found list =
    stopped_by (first_fault list.answers) (once_listed list.left list.turn (is_done (candidates confirm (found ++ candidates_in list.answers)) list.rest))

-- the list from this occurrence of its first row on
pub list_on : List CandidateData → List AidRow → ℕ → Bool → List (List ℕ) → Progress (List CandidateData)
list_on found rows turn confirm answers = told_list confirm found (listed rows turn answers)

fault_first : (fault later : Option Cause) (next : Progress (List CandidateData)) → stopped_by (option_or fault later) next ≡ stopped_by fault (stopped_by later next)
fault_first None later next = refl
fault_first (Some cause) later next = refl

-- one that was found, before those found later
pub one_found : (found : List CandidateData) (one : Option CandidateData) (later : List CandidateData) → (found ++ option_to_list one) ++ later ≡ found ++ cons_option one later
one_found found None later = ap (λ (front : List CandidateData). front ++ later) (append-nil found)
one_found found (Some candidate) later = append_assoc found (candidate ∷ []) later

one_answer : (confirm : Bool) (found : List CandidateData) (answer : AnswerData) (list : ListedData)
    → told_list confirm found (answers_with answer list) ≡ stopped_by (cause_said answer.said) (told_list confirm (found ++ option_to_list (candidate_by answer.row answer.said)) list)
unfolding told_list
one_answer confirm found answer list =
    fault_first (cause_said answer.said) (first_fault list.answers) _
    ∙ ap (λ (all : List CandidateData). stopped_by (cause_said answer.said) (stopped_by (first_fault list.answers) (once_listed list.left list.turn (is_done (candidates confirm all) list.rest))))
    (sym (one_found found (candidate_by answer.row answer.said) (candidates_in list.answers)))

-- the next occurrence of the row, or the next row
abbrev pub next_on : Bool → List CandidateData → AidRow → List AidRow → ℕ → Bool → List (List ℕ) → Progress (List CandidateData)
next_on true found row rows turn confirm = list_on found (row ∷ rows) (turn + 1) confirm
next_on false found row rows turn confirm = list_on found rows 0 confirm

either_on : (again confirm : Bool) (found : List CandidateData) (row : AidRow) (rows : List AidRow) (turn : ℕ) (later : List (List ℕ))
    → told_list confirm found (if again then listed (row ∷ rows) (turn + 1) later else listed rows 0 later) ≡ next_on again found row rows turn confirm later
unfolding list_on
either_on true confirm found row rows turn later = refl
either_on false confirm found row rows turn later = refl

pub list_step : (found more : List CandidateData) (row : AidRow) (rows : List AidRow) (turn : ℕ) (confirm again : Bool) (answer : List ℕ) (said : SaidData) (later : List (List ℕ))
    → select_said answer ≡ said → cause_said said ≡ None → has_next_occurrence row turn said ≡ again → more ≡ found ++ option_to_list (candidate_by row said)
    → list_on found (row ∷ rows) turn confirm (answer ∷ later) ≡ next_on again more row rows turn confirm later
unfolding list_on
list_step found more row rows turn confirm again answer said later is fault goes taken =
    let this : AnswerData = record { row = row; turn = turn; said = select_said answer } in
    one_answer confirm found this (if has_next_occurrence row turn (select_said answer) then listed (row ∷ rows) (turn + 1) later else listed rows 0 later)
    ∙ rw (is, fault, goes, taken) (either_on again confirm (found ++ option_to_list (candidate_by row said)) row rows turn later)

-- no row is left
pub list_end : (found : List CandidateData) (confirm : Bool) (later : List (List ℕ)) → list_on found [] 0 confirm later ≡ is_done (candidates confirm found) later
unfolding list_on told_list
list_end found confirm later = ap (λ (all : List CandidateData). is_done (candidates confirm all) later) (append-nil found)

pub list_asks : (found : List CandidateData) (row : AidRow) (rows : List AidRow) (turn : ℕ) (confirm : Bool) → list_on found (row ∷ rows) turn confirm [] ≡ once_listed (row ∷ rows) turn (is_done [] [])
unfolding list_on told_list
list_asks found row rows turn confirm = refl

pub from_start : (rows : List AidRow) (confirm : Bool) (answers : List (List ℕ)) → list_on [] rows 0 confirm answers ≡ list_candidates rows confirm answers
unfolding list_on told_list list_candidates
from_start rows confirm answers = refl

opened_by : (fault : Option Cause) (left : List AidRow) (turn : ℕ) (found : List CandidateData) (rest : List (List ℕ))
    → stopped_by fault (once_listed left turn (first_selected found rest)) ≡ then_opening (stopped_by fault (once_listed left turn (is_done found rest)))
opened_by None [] turn found rest = refl
opened_by None (row ∷ rows) turn found rest = refl
opened_by (Some cause) left turn found rest = refl

pub list_opens : ListOpens
unfolding listing list_candidates
list_opens rows confirm answers =
    let list : ListedData = listed rows 0 answers in
    opened_by (first_fault list.answers) list.left list.turn (candidates confirm (candidates_in list.answers)) list.rest
