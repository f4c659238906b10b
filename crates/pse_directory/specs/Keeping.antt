-- The candidates of a directory as they are kept while its records are read.
use Rattle.std.specs.Prelude.{◌++◌, ◌||◌, nat_le, length, Bool, List, [], ◌∷◌, fold, Option, Some, None, if◌then◌else◌}
use Rattle.std.specs.List.{list_any}
use Rattle.app_select.specs.Candidates.{CandidateData, is_candidate_named}
use Rattle.emv_dict.specs.declared.purchase.AidRow.{AidRow}
use Rattle.pse_directory.specs.Directory.{listed_by}
use Rattle.pse_directory.specs.Entries.{EntryData}

-- one more, unless it is left out
abbrev pub added_by : Bool → List CandidateData → CandidateData → List CandidateData
added_by is_left_out all candidate = (if is_left_out then all else all ++ candidate ∷ [])

-- one of its name is there, or 16 are
abbrev pub candidates_with : List CandidateData → CandidateData → List CandidateData
candidates_with all candidate = added_by (list_any (is_candidate_named candidate.name) all || nat_le 16 (length all)) all candidate

abbrev pub with_candidate : List CandidateData → Option CandidateData → List CandidateData
with_candidate all None = all
with_candidate all (Some candidate) = candidates_with all candidate

abbrev pub with_listed : List AidRow → List CandidateData → EntryData → List CandidateData
with_listed rows all entry = with_candidate all (listed_by rows entry)

abbrev pub with_entries : List AidRow → List CandidateData → List EntryData → List CandidateData
with_entries rows all entries = fold (with_listed rows) all entries
