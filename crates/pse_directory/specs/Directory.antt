-- Selection by the payment system directory (EMV 4.3 Book 1 section 12.3.2; section 12.2.2) as a step over the card's
-- answers.
use Rattle.std.specs.Prelude.{ℕ, ◌+◌, ◌++◌, ◌==◌, Bool, List, [], ◌∷◌, take, find, filter_map, Option, option_map, if◌then◌else◌}
use Rattle.apdu_core.specs.Command.{record_command}
use Rattle.app_select.specs.Candidates.{CandidateData, firsts, candidates}
use Rattle.app_select.specs.Said.{select_command, is_supported}
use Rattle.app_select.specs.Selecting.{SelectedData, first_selected, selecting}
use Rattle.emv_dict.specs.Name.{directory_name}
use Rattle.emv_dict.specs.Progress.{Progress, Wants, Stopped, Done}
use Rattle.emv_dict.specs.declared.ending.Cause.TheVariants.{Answer, CardBlocked}
use Rattle.emv_dict.specs.declared.purchase.AidRow.{AidRow}
use Rattle.pse_directory.specs.Entries.{EntryData}
use Rattle.pse_directory.specs.Said.{NameSaid, NoResponse, Blocked, Gives, Nothing, RecordSaid, Unreadable, Past, Holds, Faulty, name_said, record_said}

-- the candidate that an entry gives, by the first of the terminal's rows that supports its name
abbrev pub listed_by : List AidRow → EntryData → Option CandidateData
listed_by rows entry =
    option_map (λ row. record { row = row; name = entry.name; priority = entry.priority })
    (find (λ row. is_supported row.name row.partial entry.name) rows)

abbrev pub listed_in : List AidRow → List EntryData → List CandidateData
listed_in rows entries = filter_map (listed_by rows) entries

-- the first of each name, and at most 16 of these
abbrev pub kept_candidates : List CandidateData → List CandidateData
kept_candidates found = take 16 (firsts found)

abbrev pub done : List CandidateData → List (List ℕ) → Progress (List CandidateData)
done found rest = Done found rest

-- what the answer for a record leads to: the candidates so far where there is no such record, what the entries of
-- one lead to, or no candidates
abbrev pub told : RecordSaid → List CandidateData → (List EntryData → Progress (List CandidateData)) → List (List ℕ) → Progress (List CandidateData)
told Unreadable so_far on rest = Stopped Answer
told Past so_far on rest = done so_far rest
told (Holds entries) so_far on rest = on entries
told Faulty so_far on rest = done [] rest

-- the records of the directory from this number on, behind what was found; 255 is the last one
unfoldable pub records : List AidRow → Bool → ℕ → ℕ → List CandidateData → List (List ℕ) → Progress (List CandidateData)
records rows confirm sfi number found [] = Wants (record_command sfi number)
records rows confirm sfi number found (answer ∷ later) =
    told (record_said answer) (candidates confirm (kept_candidates found))
    (λ entries.
    if number == 255 then done (candidates confirm (kept_candidates (found ++ listed_in rows entries))) later
    else records rows confirm sfi (number + 1) (found ++ listed_in rows entries) later)
    later

abbrev pub named : NameSaid → (ℕ → Progress (List CandidateData)) → List (List ℕ) → Progress (List CandidateData)
named NoResponse on rest = Stopped Answer
named Blocked on rest = Stopped CardBlocked
named (Gives sfi) on rest = on sfi
named Nothing on rest = done [] rest

-- the directory's candidates, none where it gives none
unfoldable pub directory : List AidRow → Bool → List (List ℕ) → Progress (List CandidateData)
directory rows confirm [] = Wants (select_command 0 directory_name)
directory rows confirm (answer ∷ later) = named (name_said answer) (λ sfi. records rows confirm sfi 1 [] later) later

-- what follows the candidates; where there are none, what the list gives
abbrev pub found_or : {A : Type 0} → (List CandidateData → List (List ℕ) → Progress A) → (List (List ℕ) → Progress A) → List CandidateData → List (List ℕ) → Progress A
found_or try list [] answers = list answers
found_or try list (first ∷ behind) answers = try (first ∷ behind) answers

abbrev pub after_directory : {A : Type 0} → (List CandidateData → List (List ℕ) → Progress A) → (List (List ℕ) → Progress A) → Progress (List CandidateData) → Progress A
after_directory try list (Wants command) = Wants command
after_directory try list (Stopped cause) = Stopped cause
after_directory try list (Done found rest) = found_or try list found rest

-- the final SELECTs of the directory's candidates; where it gives none, the list
abbrev pub by_directory : List AidRow → Bool → Progress (List CandidateData) → Progress SelectedData
by_directory rows confirm found = after_directory first_selected (selecting rows confirm) found

-- application selection, with the directory at first or without it
unfoldable pub selecting_by : Bool → List AidRow → Bool → List (List ℕ) → Progress SelectedData
selecting_by pse rows confirm answers =
    if pse then by_directory rows confirm (directory rows confirm answers) else selecting rows confirm answers
