-- How selection goes on behind an answer.
use Rattle.std.proofs.Common.{◌≡◌, ℕ, ◌+◌, ◌<◌, length, arith, Bool, true, false, List, [], ◌∷◌, ◌++◌, Some, None, refl, sym, ap, ◌∙◌, append_assoc, append-nil, if◌then◌else◌}
use Rattle.std.specs.declared.option.Option.{Option}
use Rattle.std.specs.List.{cons_option}
use Rattle.std.specs.Option.{option_or, option_to_list}
use Rattle.app_select.specs.Candidates.{CandidateData, candidates}
use Rattle.app_select.specs.Listed.{AnswerData, ListedData, has_next_occurrence, answers_with, listed, first_fault, candidate_by, candidates_in}
use Rattle.app_select.specs.Said.{SaidData, select_said, cause_said}
use Rattle.app_select.specs.Selecting.{SelectedData, ListingData, final_by, or_else, first_selected, once_listed, stopped_by, listing}
use Rattle.emv_dict.proofs.Steps.{leads_more}
use Rattle.emv_dict.specs.Progress.{Progress, Stopped, Leads}
use Rattle.emv_dict.specs.declared.ending.Cause.{Cause}
use Rattle.emv_dict.specs.declared.purchase.AidRow.{AidRow}

-- what comes of the numbered answers, and of those behind them
listing_by : Bool → List CandidateData → ListedData → Progress SelectedData
listing_by confirm found list =
    stopped_by (first_fault list.answers) (once_listed list.left list.turn (first_selected (candidates confirm (found ++ candidates_in list.answers)) list.rest))

fault_first : (fault later : Option Cause) (next : Progress SelectedData) → stopped_by (option_or fault later) next ≡ stopped_by fault (stopped_by later next)
fault_first None later next = refl
fault_first (Some cause) later next = refl

one_found : (found : List CandidateData) (one : Option CandidateData) (later : List CandidateData) → found ++ cons_option one later ≡ (found ++ option_to_list one) ++ later
one_found found None later = ap (λ (front : List CandidateData). front ++ later) (sym (append-nil found))
one_found found (Some candidate) later = sym (append_assoc found (candidate ∷ []) later)

one_answer : (confirm : Bool) (found : List CandidateData) (answer : AnswerData) (list : ListedData)
    → listing_by confirm found (answers_with answer list) ≡ stopped_by (cause_said answer.said) (listing_by confirm (found ++ option_to_list (candidate_by answer.row answer.said)) list)
unfolding listing_by
one_answer confirm found answer list =
    fault_first (cause_said answer.said) (first_fault list.answers) _
    ∙ ap (λ (all : List CandidateData). stopped_by (cause_said answer.said) (stopped_by (first_fault list.answers) (once_listed list.left list.turn (first_selected (candidates confirm all) list.rest))))
    (one_found found (candidate_by answer.row answer.said) (candidates_in list.answers))

-- the state that the list goes on from
abbrev pub goes_from : Bool → List CandidateData → AidRow → List AidRow → ℕ → Bool → ListingData
goes_from true found row rows turn confirm = record { found = found; rows = row ∷ rows; turn = turn + 1; confirm = confirm }
goes_from false found row rows turn confirm = record { found = found; rows = rows; turn = 0; confirm = confirm }

either_list : (again : Bool) (confirm : Bool) (found : List CandidateData) (row : AidRow) (rows : List AidRow) (turn : ℕ) (later : List (List ℕ))
    → listing_by confirm found (if again then listed (row ∷ rows) (turn + 1) later else listed rows 0 later) ≡ listing (goes_from again found row rows turn confirm) later
unfolding listing listing_by
either_list true confirm found row rows turn later = refl
either_list false confirm found row rows turn later = refl

listing-step : (found : List CandidateData) (row : AidRow) (rows : List AidRow) (turn : ℕ) (confirm : Bool) (answer : List ℕ) (later : List (List ℕ))
    → listing (record { found = found; rows = row ∷ rows; turn = turn; confirm = confirm }) (answer ∷ later)
    ≡ stopped_by (cause_said (select_said answer)) (listing (goes_from (has_next_occurrence row turn (select_said answer)) (found ++ option_to_list (candidate_by row (select_said answer))) row rows turn confirm) later)
unfolding listing listing_by
listing-step found row rows turn confirm answer later =
    let said = select_said answer in
    let this : AnswerData = record { row = row; turn = turn; said = said } in
    one_answer confirm found this (if has_next_occurrence row turn said then listed (row ∷ rows) (turn + 1) later else listed rows 0 later)
    ∙ ap (λ (next : Progress SelectedData). stopped_by (cause_said said) next)
    (either_list (has_next_occurrence row turn said) confirm (found ++ option_to_list (candidate_by row said)) row rows turn later)

pub list_faulty : (whole : List (List ℕ) → Progress SelectedData) (answers : List (List ℕ)) (found : List CandidateData) (row : AidRow) (rows : List AidRow) (turn : ℕ) (confirm : Bool)
    (answer : List ℕ) (said : SaidData) (cause : Cause) → said ≡ select_said answer → cause_said said ≡ Some cause
    → Leads whole answers (listing (record { found = found; rows = row ∷ rows; turn = turn; confirm = confirm }))
    → Leads whole (answers ++ answer ∷ []) (λ _. Stopped cause)
list_faulty whole answers found row rows turn confirm answer said cause is fault leads =
    leads_more whole (listing (record { found = found; rows = row ∷ rows; turn = turn; confirm = confirm })) (λ _. Stopped cause) answers answer leads
    (λ later. listing-step found row rows turn confirm answer later ∙ rw (sym is, fault) refl)

pub list_told : (whole : List (List ℕ) → Progress SelectedData) (answers : List (List ℕ)) (found more : List CandidateData) (row : AidRow) (rows : List AidRow) (turn : ℕ) (confirm again : Bool)
    (answer : List ℕ) (said : SaidData) → said ≡ select_said answer → cause_said said ≡ None → has_next_occurrence row turn said ≡ again → more ≡ found ++ option_to_list (candidate_by row said)
    → Leads whole answers (listing (record { found = found; rows = row ∷ rows; turn = turn; confirm = confirm }))
    → Leads whole (answers ++ answer ∷ []) (listing (goes_from again more row rows turn confirm))
list_told whole answers found more row rows turn confirm again answer said is fault goes taken leads =
    leads_more whole (listing (record { found = found; rows = row ∷ rows; turn = turn; confirm = confirm })) (listing (goes_from again more row rows turn confirm)) answers answer leads
    (λ later. listing-step found row rows turn confirm answer later ∙ rw (sym is, fault, goes, taken) refl)

-- behind the list
listing-end : (found : List CandidateData) (confirm : Bool) (later : List (List ℕ)) → listing (record { found = found; rows = []; turn = 0; confirm = confirm }) later ≡ first_selected (candidates confirm found) later
unfolding listing
listing-end found confirm [] = ap (λ (all : List CandidateData). first_selected (candidates confirm all) []) (append-nil found)
listing-end found confirm (answer ∷ later) = ap (λ (all : List CandidateData). first_selected (candidates confirm all) (answer ∷ later)) (append-nil found)

-- no row is left
pub list_ended : (whole : List (List ℕ) → Progress SelectedData) (answers : List (List ℕ)) (found : List CandidateData) (rows : List AidRow) (confirm : Bool) → length rows < 1
    → Leads whole answers (listing (record { found = found; rows = rows; turn = 0; confirm = confirm })) → Leads whole answers (first_selected (candidates confirm found))
list_ended whole answers found [] confirm none leads later = leads later ∙ listing-end found confirm later
list_ended whole answers found (row ∷ rows) confirm none leads later = grind arith

-- an answer to the final SELECT
pub final_told : (whole : List (List ℕ) → Progress SelectedData) (answers : List (List ℕ)) (candidate : CandidateData) (left : List CandidateData) (answer : List ℕ) (said : SaidData)
    → said ≡ select_said answer → Leads whole answers (first_selected (candidate ∷ left))
    → Leads whole (answers ++ answer ∷ []) (λ later. or_else (final_by candidate left said later) (first_selected left))
final_told whole answers candidate left answer said is leads =
    leads_more whole (first_selected (candidate ∷ left)) (λ later. or_else (final_by candidate left said later) (first_selected left)) answers answer leads
    (λ later. ap (λ (s : SaidData). or_else (final_by candidate left s later) (first_selected left)) (sym is))
