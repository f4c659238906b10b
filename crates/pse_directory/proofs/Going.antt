-- How selection goes on behind the directory.
use Rattle.std.proofs.Common.{◌≡◌, ◌≤◌, ℕ, ◌-◌, ◌++◌, Bool, List, [], ◌∷◌, refl, sym, ap, ◌∙◌, arith}
use Rattle.app_select.specs.Candidates.{CandidateData}
use Rattle.app_select.specs.Leading.{SearchData, SelectingData, rest_with, selecting_rest}
use Rattle.app_select.specs.Named.{BeginsWith, SelectBeginsWith}
use Rattle.app_select.specs.Selecting.{SelectedData, first_selected, selecting}
use Rattle.app_select.specs.declared.search.SearchNext.TheVariants as search
use Rattle.app_select.specs.declared.selecting.SelectNext.TheVariants as select
use Rattle.emv_dict.proofs.Steps.{leads_more}
use Rattle.emv_dict.specs.Progress.{Progress, Wants, Leads}
use Rattle.emv_dict.specs.declared.ending.Cause.{Cause}
use Rattle.emv_dict.specs.declared.purchase.AidRow.{AidRow}
use Rattle.pse_directory.specs.Directory.{done, found_or, by_directory}
use Rattle.pse_directory.specs.Left.{DirectoryData, directory_left, directory_rest}
use Rattle.pse_directory.specs.Next.{DirectoryNextIs, ListNextIs}
use Rattle.pse_directory.specs.declared.listing.DirectoryNext.TheVariants as lent
use Rattle.pse_directory.specs.declared.listing.ListNext.TheVariants as next

abbrev Course : Type 0
Course = List (List ℕ) → Progress SelectedData

-- with a candidate
pub found_is : (among : List CandidateData) (state : SearchData) (left : List CandidateData) → BeginsWith among (search.Ask state) left
    → DirectoryNextIs (done among []) (lent.Found state)
found_is [] state left begins = absurd begins
found_is (first ∷ behind) state left begins = tt

pub found_leads : (whole list : Course) (answers : List (List ℕ)) (among : List CandidateData) (state : SearchData) (left : List CandidateData)
    → BeginsWith among (search.Ask state) left → Leads whole answers (found_or first_selected list among) → Leads whole answers (rest_with state left)
found_leads whole list answers [] state left begins leads = absurd begins
found_leads whole list answers (first ∷ behind) state left begins leads = rw (begins.0, begins.1) leads

-- without one
pub list_is : (among : List CandidateData) (cause : Cause) (left : List CandidateData) (state : SearchData) → BeginsWith among (search.Ended cause) left
    → DirectoryNextIs (done among []) (lent.List state)
list_is [] cause left state begins = tt
list_is (first ∷ behind) cause left state begins = absurd begins

pub none_left : (among : List CandidateData) (cause : Cause) (left : List CandidateData) → BeginsWith among (search.Ended cause) left → left ≡ []
none_left [] cause left begins = begins.1
none_left (first ∷ behind) cause left begins = absurd begins

pub list_leads : (whole list start : Course) (answers : List (List ℕ)) (among : List CandidateData) (cause : Cause) (left : List CandidateData)
    → BeginsWith among (search.Ended cause) left → Leads whole answers (found_or first_selected list among) → Leads list [] start → Leads whole answers start
list_leads whole list start answers [] cause left begins leads begun = λ later. leads later ∙ begun later
list_leads whole list start answers (first ∷ behind) cause left begins leads begun = absurd begins

pub never_chosen : (among : List CandidateData) (choice : _) (left : List CandidateData) → BeginsWith among (search.Chosen choice) left → ⊥
never_chosen [] choice left begins = begins
never_chosen (first ∷ behind) choice left begins = begins

-- the same where the candidates stand in the state
pub selecting_found_is : (among : List CandidateData) (state : SelectingData) → SelectBeginsWith among (select.Ask state) → ListNextIs (done among []) (next.Found state)
selecting_found_is [] state begins = absurd begins
selecting_found_is (first ∷ behind) state begins = tt

pub selecting_found_leads : (whole list : Course) (answers : List (List ℕ)) (among : List CandidateData) (state : SelectingData)
    → SelectBeginsWith among (select.Ask state) → Leads whole answers (found_or first_selected list among) → Leads whole answers (selecting_rest state)
selecting_found_leads whole list answers [] state begins leads = absurd begins
selecting_found_leads whole list answers (first ∷ behind) state begins leads = rw (begins.0, begins.1) leads

pub selecting_list_is : (among : List CandidateData) (cause : Cause) (state : SelectingData) → SelectBeginsWith among (select.Ended cause) → ListNextIs (done among []) (next.List state)
selecting_list_is [] cause state begins = tt
selecting_list_is (first ∷ behind) cause state begins = absurd begins

pub selecting_list_leads : (whole list start : Course) (answers : List (List ℕ)) (among : List CandidateData) (cause : Cause)
    → SelectBeginsWith among (select.Ended cause) → Leads whole answers (found_or first_selected list among) → Leads list [] start → Leads whole answers start
selecting_list_leads whole list start answers [] cause begins leads begun = λ later. leads later ∙ begun later
selecting_list_leads whole list start answers (first ∷ behind) cause begins leads begun = absurd begins

-- one answer more
pub told_leads : (whole : Course) (answers : List (List ℕ)) (state : DirectoryData) (answer : List ℕ) (behind : List (List ℕ) → Progress (List CandidateData))
    → Leads whole answers (directory_rest state) → ((later : List (List ℕ)) → directory_left state (answer ∷ later) ≡ behind later)
    → Leads whole (answers ++ answer ∷ []) (λ later. by_directory state.rows state.confirm (behind later))
told_leads whole answers state answer behind leads step =
    leads_more whole (directory_rest state) (λ later. by_directory state.rows state.confirm (behind later)) answers answer leads
    (λ later. ap (λ (found : Progress (List CandidateData)). by_directory state.rows state.confirm found) (step later))

-- another answer is wanted
pub asked_leads : (whole : Course) (answers : List (List ℕ)) (state later_state : DirectoryData) (answer : List ℕ)
    → Leads whole answers (directory_rest state) → ((later : List (List ℕ)) → directory_left state (answer ∷ later) ≡ directory_left later_state later)
    → later_state.rows ≡ state.rows → later_state.confirm ≡ state.confirm → Leads whole (answers ++ answer ∷ []) (directory_rest later_state)
asked_leads whole answers state later_state answer leads step rows confirm later =
    told_leads whole answers state answer (directory_left later_state) leads step later
    ∙ ap (λ (among : List AidRow). by_directory among state.confirm (directory_left later_state later)) (sym rows)
    ∙ ap (λ (may : Bool). by_directory later_state.rows may (directory_left later_state later)) (sym confirm)

-- the command that the directory wants answered is the one that selection wants
pub rest_wants : (state : DirectoryData) (command : List ℕ) → directory_left state [] ≡ Wants command → directory_rest state [] ≡ Wants command
rest_wants state command wants = rw wants refl
