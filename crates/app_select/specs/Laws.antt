-- What stands beside the definitions of the candidates, in other words.
use Rattle.std.specs.Prelude.{⊤, ◌≡◌, ◌≤◌, false, List, [], ◌∷◌}
use Rattle.std.specs.List.{AllByRecursion}
use Rattle.std.specs.Str.{bytes_eq}
use Rattle.app_select.specs.Candidates.{CandidateData, priority_rank}

-- none stands behind one that comes later in the order
abbrev pub IsInPriorityOrder : List CandidateData → Type 0
IsInPriorityOrder [] = ⊤
IsInPriorityOrder (candidate ∷ later) = AllByRecursion (λ other. priority_rank candidate.priority ≤ priority_rank other.priority) later × IsInPriorityOrder later

-- no later one has the name of an earlier one
abbrev pub HasDistinctNames : List CandidateData → Type 0
HasDistinctNames [] = ⊤
HasDistinctNames (candidate ∷ later) = AllByRecursion (λ other. bytes_eq candidate.name other.name ≡ false) later × HasDistinctNames later
