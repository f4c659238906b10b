-- A candidate of the program as a contract sees it.
use Rattle.std.specs.Prelude.{ℕ, ◌&&◌, Bool, not, List, map}
use Rattle.std.specs.List.{list_any}
use Rattle.app_select.specs.Candidates.{CandidateData, is_candidate_named, has_rank, is_allowed}
use Rattle.app_select.specs.declared.candidates.Candidate.{Candidate}

abbrev pub seen_candidate : Candidate → CandidateData
seen_candidate c = record { row = c.row.row.now; name = c.name; priority = c.priority }

abbrev pub seen_all : List Candidate → List CandidateData
seen_all candidates = map seen_candidate candidates

-- the candidate stays behind these
abbrev pub is_kept : Bool → List CandidateData → CandidateData → Bool
is_kept confirm earlier candidate = is_allowed confirm candidate && not (list_any (is_candidate_named candidate.name) earlier)

-- the same of a rank
abbrev pub is_ranked : Bool → ℕ → List CandidateData → CandidateData → Bool
is_ranked confirm rank earlier candidate = has_rank rank candidate && is_kept confirm earlier candidate
