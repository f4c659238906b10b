-- The instruction of each command that a card is asked before it is read.
use Rattle.std.proofs.Common.{◌≡◌, refl, ℕ, ◌+◌, ◌==◌, Bool, true, false, List, [], ◌∷◌, ◌++◌, Option, Some, None, Result, Ok, Err, if◌then◌else◌}
use Rattle.std.specs.Prelude.{slice_index}
use Rattle.apdu_core.specs.Command.{record_command}
use Rattle.app_select.specs.Candidates.{CandidateData, candidates}
use Rattle.app_select.specs.Listed.{listed, first_fault, candidates_in}
use Rattle.app_select.specs.Said.{SaidData, Unreadable, Blocked, Named, Nothing, select_said, select_command}
use Rattle.app_select.specs.Selecting.{SelectedData, ListingData, final, final_by, or_else, first_selected, once_listed, stopped_by, listing, selecting}
use Rattle.emv_dict.specs.Progress.{Progress, Wants, Stopped, Done}
use Rattle.emv_dict.specs.declared.ending.Cause.{Cause}
use Rattle.emv_dict.specs.declared.ending.Step.{Step}
use Rattle.emv_dict.specs.declared.ending.Step.TheVariants as step
use Rattle.emv_dict.specs.declared.purchase.AidRow.{AidRow}
use Rattle.env_map.specs.Entries.{Entries}
use Rattle.kernel.specs.Laws.{opens_in}
use Rattle.object_lists.specs.CardRead.{ReadCard}
use Rattle.object_lists.specs.Checked.{objects_fault}
use Rattle.pse_directory.specs.Directory.{directory, records, told, named, done, kept_candidates, listed_in, found_or, after_directory, by_directory, selecting_by}
use Rattle.emv_dict.specs.Name.{directory_name}
use Rattle.pse_directory.specs.Entries.{EntryData}
use Rattle.pse_directory.specs.Said as directory_said
use Rattle.read_records.specs.Afl.{RecordPlace}
use Rattle.read_records.specs.DataRead.{card_unless, finished, read_on, reading}
use Rattle.read_records.specs.Options.{Opened, OptionsSaid, Refused, Granted, Faulty, options_said, options_command, options_data, after_options, initiated, initiating, initiating_with}

abbrev pub Opens : Step → List ℕ → Type 0
Opens step command = opens_in (slice_index command 1) step ≡ true

-- each command that this wants answered is one of the step
abbrev Asks : {A : Type 0} → Step → Progress A → Type 0
Asks step progress = (command : List ℕ) → progress ≡ Wants command → Opens step command

selects : {A : Type 0} (p2 : ℕ) (name : List ℕ) → (let p : Progress A = Wants (select_command p2 name) in Asks step.Select p)
selects p2 name command is = let same : select_command p2 name ≡ command = cc in rw (← same) refl

final_asks_by : (candidate : CandidateData) (left : List CandidateData) (said : SaidData) (rest : List (List ℕ)) → Asks step.Select (final_by candidate left said rest)
final_asks_by candidate left Unreadable rest command is = absurd (cc is)
final_asks_by candidate left Blocked rest command is = absurd (cc is)
final_asks_by candidate left (Named is_valid fci) rest command is = absurd (cc is)
final_asks_by candidate left Nothing rest command is = absurd (cc is)

pub final_asks : (candidate : CandidateData) (left : List CandidateData) (answers : List (List ℕ)) → Asks step.Select (final candidate left answers)
final_asks candidate left [] = selects 0 candidate.name
final_asks candidate left (answer ∷ rest) = final_asks_by candidate left (select_said answer) rest

or_asks : {A : Type 0} (progress : Progress (Option A)) (next : List (List ℕ) → Progress A) → Asks step.Select progress → ((answers : List (List ℕ)) → Asks step.Select (next answers))
    → Asks step.Select (or_else progress next)
or_asks (Wants found) next one two command is = let same : found ≡ command = cc in rw (← same) (one found refl)
or_asks (Stopped cause) next one two command is = absurd (cc is)
or_asks (Done (Some value) rest) next one two command is = absurd (cc is)
or_asks (Done None rest) next one two command is = two rest command is

first_asks : (candidates : List CandidateData) (answers : List (List ℕ)) → Asks step.Select (first_selected candidates answers)
first_asks [] answers = λ command is. absurd (cc is)
first_asks (candidate ∷ left) answers = or_asks (final candidate left answers) (first_selected left) (final_asks candidate left answers) (first_asks left)

once_asks : {A : Type 0} (rows : List AidRow) (turn : ℕ) (next : Progress A) → Asks step.Select next → Asks step.Select (once_listed rows turn next)
once_asks [] turn next asks = asks
once_asks (row ∷ rows) turn next asks = selects (if turn == 0 then 0 else 2) row.name

stopped_asks : {A : Type 0} (fault : Option Cause) (next : Progress A) → Asks step.Select next → Asks step.Select (stopped_by fault next)
stopped_asks None next asks = asks
stopped_asks (Some cause) next asks = λ command is. absurd (cc is)

list_asks : (rows : List AidRow) (confirm : Bool) (answers : List (List ℕ)) → Asks step.Select (selecting rows confirm answers)
unfolding listing
list_asks rows confirm answers =
    let list = listed rows 0 answers in
    stopped_asks (first_fault list.answers) _ (once_asks list.left list.turn _ (first_asks (candidates confirm ([] ++ candidates_in list.answers)) list.rest))

-- the directory
-- what its records lead to, where each that is read on is asked for so
records_by : (rows : List AidRow) (confirm : Bool) (sfi number : ℕ) (found : List CandidateData) (later : List (List ℕ))
    → ((entries : List EntryData) → Asks step.Select (records rows confirm sfi (number + 1) (found ++ listed_in rows entries) later)) → (entries : List EntryData) (last : Bool)
    → (let p : Progress (List CandidateData) = (if last then done (candidates confirm (kept_candidates (found ++ listed_in rows entries))) later
    else records rows confirm sfi (number + 1) (found ++ listed_in rows entries) later) in Asks step.Select p)
records_by rows confirm sfi number found later asks entries true = λ command is. absurd (cc is)
records_by rows confirm sfi number found later asks entries false = asks entries

record_asks : (said : directory_said.RecordSaid) (so_far : List CandidateData) (on : List EntryData → Progress (List CandidateData)) (later : List (List ℕ))
    → ((entries : List EntryData) → Asks step.Select (on entries)) → Asks step.Select (told said so_far on later)
record_asks directory_said.Unreadable so_far on later asks = λ command is. absurd (cc is)
record_asks directory_said.Past so_far on later asks = λ command is. absurd (cc is)
record_asks (directory_said.Holds entries) so_far on later asks = asks entries
record_asks directory_said.Faulty so_far on later asks = λ command is. absurd (cc is)

records_ask : (rows : List AidRow) (confirm : Bool) (sfi number : ℕ) (found : List CandidateData) (answers : List (List ℕ)) → Asks step.Select (records rows confirm sfi number found answers)
unfolding records
records_ask rows confirm sfi number found [] = λ command is. let same : record_command sfi number ≡ command = cc in rw (← same) refl
records_ask rows confirm sfi number found (answer ∷ later) =
    record_asks (directory_said.record_said answer) _ _ later
    (λ entries. records_by rows confirm sfi number found later (λ entries. records_ask rows confirm sfi (number + 1) (found ++ listed_in rows entries) later) entries (number == 255))

directory_asks_by : (rows : List AidRow) (confirm : Bool) (said : directory_said.NameSaid) (later : List (List ℕ)) → Asks step.Select (named said (λ sfi. records rows confirm sfi 1 [] later) later)
directory_asks_by rows confirm directory_said.NoResponse later = λ command is. absurd (cc is)
directory_asks_by rows confirm directory_said.Blocked later = λ command is. absurd (cc is)
directory_asks_by rows confirm (directory_said.Gives sfi) later = records_ask rows confirm sfi 1 [] later
directory_asks_by rows confirm directory_said.Nothing later = λ command is. absurd (cc is)

directory_asks : (rows : List AidRow) (confirm : Bool) (answers : List (List ℕ)) → Asks step.Select (directory rows confirm answers)
unfolding directory
directory_asks rows confirm [] = selects 0 directory_name
directory_asks rows confirm (answer ∷ later) = directory_asks_by rows confirm (directory_said.name_said answer) later

found_asks : (rows : List AidRow) (confirm : Bool) (found : List CandidateData) (rest : List (List ℕ)) → Asks step.Select (found_or first_selected (selecting rows confirm) found rest)
found_asks rows confirm [] rest = list_asks rows confirm rest
found_asks rows confirm (first ∷ behind) rest = first_asks (first ∷ behind) rest

by_directory_asks : (rows : List AidRow) (confirm : Bool) (found : Progress (List CandidateData)) → Asks step.Select found → Asks step.Select (by_directory rows confirm found)
by_directory_asks rows confirm (Wants asked) asks = λ command is. let same : asked ≡ command = cc in rw (← same) (asks asked refl)
by_directory_asks rows confirm (Stopped cause) asks = λ command is. absurd (cc is)
by_directory_asks rows confirm (Done found rest) asks = found_asks rows confirm found rest

select_asks_by : (pse : Bool) (rows : List AidRow) (confirm : Bool) (answers : List (List ℕ))
    → (let p : Progress SelectedData = (if pse then by_directory rows confirm (directory rows confirm answers) else selecting rows confirm answers) in Asks step.Select p)
select_asks_by true rows confirm answers = by_directory_asks rows confirm (directory rows confirm answers) (directory_asks rows confirm answers)
select_asks_by false rows confirm answers = list_asks rows confirm answers

pub select_asks : (pse : Bool) (rows : List AidRow) (confirm : Bool) (answers : List (List ℕ)) → Asks step.Select (selecting_by pse rows confirm answers)
unfolding selecting_by
select_asks pse rows confirm answers = select_asks_by pse rows confirm answers

-- without an answer nothing is selected yet
first_unfinished : (candidates : List CandidateData) (value : SelectedData) (rest : List (List ℕ)) → first_selected candidates [] ≡ Done value rest → ⊥
first_unfinished [] value rest is = cc is
first_unfinished (candidate ∷ left) value rest is = cc is

list_unfinished : (rows : List AidRow) (confirm : Bool) (value : SelectedData) (rest : List (List ℕ)) → selecting rows confirm [] ≡ Done value rest → ⊥
unfolding listing
list_unfinished [] confirm value rest is = first_unfinished _ value rest is
list_unfinished (row ∷ rows) confirm value rest is = cc is

unfinished_by : (pse : Bool) (rows : List AidRow) (confirm : Bool) (value : SelectedData) (rest : List (List ℕ))
    → (let p : Progress SelectedData = (if pse then by_directory rows confirm (directory rows confirm []) else selecting rows confirm []) in p ≡ Done value rest) → ⊥
unfolding directory
unfinished_by true rows confirm value rest is = cc is
unfinished_by false rows confirm value rest is = list_unfinished rows confirm value rest is

pub unfinished : (pse : Bool) (rows : List AidRow) (confirm : Bool) (value : SelectedData) (rest : List (List ℕ)) → selecting_by pse rows confirm [] ≡ Done value rest → ⊥
unfolding selecting_by
unfinished pse rows confirm value rest is = unfinished_by pse rows confirm value rest is

-- GET PROCESSING OPTIONS
options_ask_by : (said : OptionsSaid) (rest : List (List ℕ)) → Asks step.Initiate (after_options said rest)
options_ask_by Refused rest = λ command is. absurd (cc is)
options_ask_by (Granted start) rest = λ command is. absurd (cc is)
options_ask_by (Faulty because) rest = λ command is. absurd (cc is)

initiated_asks : (given : List ℕ) (answers : List (List ℕ)) → Asks step.Initiate (initiated given answers)
unfolding initiated
initiated_asks given [] = λ command is. let same : options_command given ≡ command = cc in rw (← same) refl
initiated_asks given (answer ∷ rest) = options_ask_by (options_said answer) rest

initiating_asks_by : (given : Option (List ℕ)) (answers : List (List ℕ)) → Asks step.Initiate (initiating_with given answers)
initiating_asks_by None answers = λ command is. absurd (cc is)
initiating_asks_by (Some given) answers = initiated_asks given answers

pub initiating_asks : (list : Option (List ℕ)) (terminal : Entries) (answers : List (List ℕ)) → Asks step.Initiate (initiating list terminal answers)
initiating_asks list terminal answers = initiating_asks_by (options_data list terminal) answers

-- READ RECORD
finished_asks : (card : Result ReadCard Cause) (rest : List (List ℕ)) → Asks step.Read (finished card rest)
finished_asks (Ok card) rest = λ command is. absurd (cc is)
finished_asks (Err cause) rest = λ command is. absurd (cc is)

reads_on : (read : Result Entries Cause) (left : List RecordPlace) (rest : List (List ℕ)) → Asks step.Read (read_on read left rest)
reads_on (Err cause) left rest = λ command is. absurd (cc is)
reads_on (Ok entries) (place ∷ left) rest = λ command is. let same : record_command place.sfi place.number ≡ command = cc in rw (← same) refl
reads_on (Ok entries) [] rest = finished_asks (card_unless entries (objects_fault entries)) rest

pub reading_asks : (start : Opened) (answers : List (List ℕ)) → Asks step.Read (reading start answers)
unfolding reading
reading_asks start answers = reads_on _ _ _
