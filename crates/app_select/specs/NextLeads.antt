-- What the step that comes next does with the later answers.
use Rattle.std.specs.Prelude.{⊤, ℕ, List, length}
use Rattle.app_select.specs.Candidates.{CandidateData}
use Rattle.app_select.specs.Leading.{rest_with, selecting_rest, search_answers_left, HasRoomForCandidates, selected_with}
use Rattle.app_select.specs.Selecting.{SelectedData}
use Rattle.app_select.specs.declared.search.SearchNext.{SearchNext}
use Rattle.app_select.specs.declared.search.SearchNext.TheVariants as search
use Rattle.app_select.specs.declared.selecting.SelectNext.{SelectNext}
use Rattle.app_select.specs.declared.selecting.SelectNext.TheVariants as select
use Rattle.emv_dict.specs.Progress.{Progress, Stopped, Done, Leads}

-- behind these answers the whole asks on beside these candidates, is done with an application, or has
-- stopped
abbrev pub SearchNextLeads : List CandidateData → (List (List ℕ) → Progress SelectedData) → List (List ℕ) → SearchNext → Type 0
SearchNextLeads candidates whole answers (search.Ask state) = Leads whole answers (rest_with state candidates)
SearchNextLeads candidates whole answers (search.Chosen choice) = Leads whole answers (Done (selected_with choice candidates))
SearchNextLeads candidates whole answers (search.Ended cause) = Leads whole answers (λ _. Stopped cause)

-- there is room for what the answers to come find
abbrev pub NextHasRoom : SearchNext → List CandidateData → Type 0
NextHasRoom (search.Ask state) candidates = HasRoomForCandidates state candidates
NextHasRoom (search.Chosen choice) candidates = ⊤
NextHasRoom (search.Ended cause) candidates = ⊤

-- the most answers to SELECT that are still taken, also behind an application that is refused
abbrev pub search_answers_left_next : SearchNext → List CandidateData → ℕ
search_answers_left_next (search.Ask state) candidates = search_answers_left state candidates
search_answers_left_next (search.Chosen choice) candidates = length candidates
search_answers_left_next (search.Ended cause) candidates = 0

-- the same where the candidates stand in the state
abbrev pub SelectNextLeads : (List (List ℕ) → Progress SelectedData) → List (List ℕ) → SelectNext → Type 0
SelectNextLeads whole answers (select.Ask state) = Leads whole answers (selecting_rest state)
SelectNextLeads whole answers (select.Chosen selected) = Leads whole answers (Done selected)
SelectNextLeads whole answers (select.Ended cause) = Leads whole answers (λ _. Stopped cause)
