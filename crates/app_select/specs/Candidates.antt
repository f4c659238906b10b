-- The candidates for selection and their order (EMV 4.3 Book 1 sections 12.2.3 and 12.4).
use Rattle.std.specs.Prelude.{ℕ, zero, suc, List, [], ◌∷◌, ◌++◌, ◌+◌, ◌%◌, ◌==◌, ◌||◌, Bool, false, not, nat_le, filter, Option, Some, None, if◌then◌else◌}
use Rattle.std.specs.List.{list_any}
use Rattle.std.specs.Str.{bytes_eq}
use Rattle.emv_dict.specs.declared.purchase.AidRow.{AidRow}

-- the terminal's row that an application of the card was found by, its name, and the byte of its
-- priority indicator (87) where it has one
pub record CandidateData : Type 0 where
  pub row : AidRow
  pub name : List ℕ
  pub priority : Option ℕ

-- whether a candidate has this name
abbrev pub is_candidate_named : List ℕ → CandidateData → Bool
is_candidate_named name candidate = bytes_eq candidate.name name

-- the first of each name: those whose name none of the earlier ones has
abbrev pub firsts_behind : List CandidateData → List CandidateData → List CandidateData
firsts_behind earlier [] = []
firsts_behind earlier (candidate ∷ later) =
    if list_any (is_candidate_named candidate.name) earlier then firsts_behind (earlier ++ candidate ∷ []) later
    else candidate ∷ firsts_behind (earlier ++ candidate ∷ []) later

-- the first candidate of each name, in the order found
abbrev pub firsts : List CandidateData → List CandidateData
firsts found = firsts_behind [] found

-- with bit 8 the cardholder has to confirm the application
abbrev pub needs_confirmation : Option ℕ → Bool
needs_confirmation None = false
needs_confirmation (Some byte) = nat_le 128 byte

-- the terminal has a way to confirm, or none is needed
abbrev pub is_allowed : Bool → CandidateData → Bool
is_allowed confirm candidate = confirm || not (needs_confirmation candidate.priority)

-- the place in the order, 1 first: bits 4 to 1; without a priority last
abbrev pub priority_rank : Option ℕ → ℕ
priority_rank None = 16
priority_rank (Some byte) = (if byte % 16 == 0 then 16 else byte % 16)

-- whether a candidate stands at this place in the order of priority
abbrev pub has_rank : ℕ → CandidateData → Bool
has_rank rank candidate = priority_rank candidate.priority == rank

-- those of this rank, then those of the next one, for so many ranks
abbrev pub by_rank : ℕ → ℕ → List CandidateData → List CandidateData
by_rank rank zero candidates = []
by_rank rank (suc ranks) candidates = filter (has_rank rank) candidates ++ by_rank (rank + 1) ranks candidates

-- in the order of priority; those of one priority in the order found
abbrev pub in_priority_order : List CandidateData → List CandidateData
in_priority_order candidates = by_rank 1 16 candidates

-- the first of each name, without those that cannot be confirmed
abbrev pub confirmable : Bool → List CandidateData → List CandidateData
confirmable confirm found = filter (is_allowed confirm) (firsts found)

-- the candidates among the applications found
unfoldable pub candidates : Bool → List CandidateData → List CandidateData
candidates confirm found = in_priority_order (confirmable confirm found)
