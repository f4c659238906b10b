-- Applications that a card names by itself, and selection among them (EMV 4.3 Book 1 sections 12.3.2 and 12.4).
use Rattle.std.specs.Prelude.{◌≡◌, ℕ, ◌<◌, false, List, [], ◌∷◌, map, length, slice_index_or}
use Rattle.std.specs.List.{All}
use Rattle.app_select.specs.Candidates.{CandidateData}
use Rattle.app_select.specs.Leading.{Final}
use Rattle.app_select.specs.declared.naming.Found.{Found}
use Rattle.app_select.specs.declared.search.SearchNext.{SearchNext}
use Rattle.app_select.specs.declared.search.SearchNext.TheVariants as search
use Rattle.app_select.specs.declared.selecting.SelectNext.{SelectNext}
use Rattle.app_select.specs.declared.selecting.SelectNext.TheVariants as select
use Rattle.emv_dict.specs.declared.ending.Cause.TheVariants.{NoCandidate}
use Rattle.emv_dict.specs.declared.purchase.AidRow.{AidRow}

-- each row stands among the terminal's
abbrev pub HaveRows : List AidRow → List Found → Type 0
HaveRows rows found = All (λ one. one.aid < length rows) found

-- what stands at a place behind the last row
abbrev pub no_row : AidRow
no_row = record {
  name = [];
  partial = false;
  version = [];
  denial = [];
  online = [];
  fallback = [];
  floor = 0;
  threshold = 0;
  target = 0;
  max_target = 0;
}

abbrev pub named_by : List AidRow → Found → CandidateData
named_by rows one = record { row = slice_index_or rows one.aid no_row; name = one.name; priority = one.priority }

-- the names that a card gave by itself, as candidates, each with its row of the terminal
abbrev pub all_named : List AidRow → List Found → List CandidateData
all_named rows found = map (named_by rows) found

-- selection begins with the first of these candidates, and the others stand behind it; or there is none
abbrev pub BeginsWith : List CandidateData → SearchNext → List CandidateData → Type 0
BeginsWith [] (search.Ask state) left = ⊥
BeginsWith [] (search.Chosen choice) left = ⊥
BeginsWith [] (search.Ended cause) left = (cause ≡ NoCandidate) × (left ≡ [])
BeginsWith (first ∷ behind) (search.Ask state) left = (state ≡ Final first) × (left ≡ behind)
BeginsWith (first ∷ behind) (search.Chosen choice) left = ⊥
BeginsWith (first ∷ behind) (search.Ended cause) left = ⊥

-- the same where the candidates stand in the state
abbrev pub SelectBeginsWith : List CandidateData → SelectNext → Type 0
SelectBeginsWith [] (select.Ask state) = ⊥
SelectBeginsWith [] (select.Chosen selected) = ⊥
SelectBeginsWith [] (select.Ended cause) = cause ≡ NoCandidate
SelectBeginsWith (first ∷ behind) (select.Ask state) = (state.search ≡ Final first) × (state.candidates ≡ behind)
SelectBeginsWith (first ∷ behind) (select.Chosen selected) = ⊥
SelectBeginsWith (first ∷ behind) (select.Ended cause) = ⊥
