-- What the step that comes next does with the later answers.
use Rattle.std.specs.Prelude.{⊤, ◌≡◌, ◌<◌, ℕ, List, [], ◌∷◌, Bool}
use Rattle.app_select.specs.Candidates.{CandidateData, candidates}
use Rattle.app_select.specs.Leading.{rest_with, HasRoomForCandidates, search_answers_left, selecting_rest}
use Rattle.app_select.specs.Named.{HaveRows, all_named}
use Rattle.app_select.specs.Selecting.{SelectedData}
use Rattle.emv_dict.specs.Progress.{Progress, Wants, Stopped, Done, Leads}
use Rattle.emv_dict.specs.declared.purchase.AidRow.{AidRow}
use Rattle.pse_directory.specs.Directory.{done}
use Rattle.pse_directory.specs.Left.{DirectoryData, directory_left, directory_rest, directory_answers_left}
use Rattle.pse_directory.specs.declared.listing.Answered.{Answered}
use Rattle.pse_directory.specs.declared.listing.Answered.TheVariants as answered
use Rattle.pse_directory.specs.declared.listing.DirectoryNext.{DirectoryNext}
use Rattle.pse_directory.specs.declared.listing.DirectoryNext.TheVariants as lent
use Rattle.pse_directory.specs.declared.listing.ListNext.{ListNext}
use Rattle.pse_directory.specs.declared.listing.ListNext.TheVariants as next

-- what the directory gives behind an answer
abbrev pub answered_left : List AidRow → Bool → Answered → List (List ℕ) → Progress (List CandidateData)
answered_left rows confirm (answered.Ask state) later = directory_left state later
answered_left rows confirm (answered.Found found) later = done (candidates confirm (all_named rows found.items)) later
answered_left rows confirm (answered.Ended cause) later = Stopped cause

-- it goes on for the same terminal, at a later record; or each row of what it found is the terminal's
abbrev pub ListingGoesOn : DirectoryData → Answered → Type 0
ListingGoesOn state (answered.Ask later) = (later.rows ≡ state.rows) × (later.confirm ≡ state.confirm) × (directory_answers_left later < directory_answers_left state)
ListingGoesOn state (answered.Found found) = HaveRows state.rows found.items
ListingGoesOn state (answered.Ended cause) = ⊤

-- with the candidates beside it, behind these answers the whole reads on, or goes on with the directory's candidates
-- or with the list, or has stopped
abbrev pub DirectoryNextLeads : List CandidateData → (List (List ℕ) → Progress SelectedData) → List (List ℕ) → DirectoryNext → Type 0
DirectoryNextLeads candidates whole answers (lent.Ask state) = Leads whole answers (directory_rest state)
DirectoryNextLeads candidates whole answers (lent.Found search) = Leads whole answers (rest_with search candidates)
DirectoryNextLeads candidates whole answers (lent.List search) = Leads whole answers (rest_with search candidates)
DirectoryNextLeads candidates whole answers (lent.Ended cause) = Leads whole answers (λ _. Stopped cause)

-- it reads on where the directory wants another answer, and has ended where the directory has; with candidates or
-- without, it goes on with them or with the list
abbrev pub DirectoryNextIs : Progress (List CandidateData) → DirectoryNext → Type 0
DirectoryNextIs (Wants command) (lent.Ask state) = ⊤
DirectoryNextIs (Stopped why) (lent.Ended cause) = cause ≡ why
DirectoryNextIs (Done [] rest) (lent.List search) = ⊤
DirectoryNextIs (Done (first ∷ behind) rest) (lent.Found search) = ⊤
DirectoryNextIs progress other = ⊥

-- there is room for what the answers to come find
abbrev pub DirectoryNextHasRoom : DirectoryNext → List CandidateData → Type 0
DirectoryNextHasRoom (lent.Ask state) candidates = ⊤
DirectoryNextHasRoom (lent.Found search) candidates = HasRoomForCandidates search candidates
DirectoryNextHasRoom (lent.List search) candidates = HasRoomForCandidates search candidates
DirectoryNextHasRoom (lent.Ended cause) candidates = ⊤

-- the most answers that are still taken
abbrev pub directory_answers_left_next : DirectoryNext → List CandidateData → ℕ
directory_answers_left_next (lent.Ask state) candidates = directory_answers_left state
directory_answers_left_next (lent.Found search) candidates = search_answers_left search candidates
directory_answers_left_next (lent.List search) candidates = search_answers_left search candidates
directory_answers_left_next (lent.Ended cause) candidates = 0

-- the same where the candidates stand in the state
abbrev pub ListNextLeads : (List (List ℕ) → Progress SelectedData) → List (List ℕ) → ListNext → Type 0
ListNextLeads whole answers (next.Ask state) = Leads whole answers (directory_rest state)
ListNextLeads whole answers (next.Found selecting) = Leads whole answers (selecting_rest selecting)
ListNextLeads whole answers (next.List selecting) = Leads whole answers (selecting_rest selecting)
ListNextLeads whole answers (next.Ended cause) = Leads whole answers (λ _. Stopped cause)

-- which of its results a call of the directory gives: the next command, why it ends, the list, or its own candidates
abbrev pub ListNextIs : Progress (List CandidateData) → ListNext → Type 0
ListNextIs (Wants command) (next.Ask state) = ⊤
ListNextIs (Stopped why) (next.Ended cause) = cause ≡ why
ListNextIs (Done [] rest) (next.List selecting) = ⊤
ListNextIs (Done (first ∷ behind) rest) (next.Found selecting) = ⊤
ListNextIs progress other = ⊥
