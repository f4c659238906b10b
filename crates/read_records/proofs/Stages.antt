-- What a step wants, and how it goes on behind an answer.
use Rattle.std.proofs.Common.{◌≡◌, ℕ, List, [], ◌∷◌, ◌++◌, Ok, Err, Some, None, Option, refl, ap, sym, ◌∙◌, drop, length}
use Rattle.std.proofs.Math.Seq.{drop-length}
use Rattle.std.specs.declared.result.Result.{Result}
use Rattle.apdu_core.specs.Command.{record_command}
use Rattle.emv_dict.proofs.Steps.{leads_more, leads_now}
use Rattle.emv_dict.specs.Progress.{Progress, Wants, Stopped, Done, Leads}
use Rattle.emv_dict.specs.declared.ending.Cause.{Cause}
use Rattle.env_map.specs.Entries.{Entries}
use Rattle.object_lists.specs.CardRead.{ReadCard, card_of_objects}
use Rattle.read_records.specs.Afl.{RecordPlace}
use Rattle.object_lists.specs.Checked.{objects_fault}
use Rattle.read_records.specs.DataRead.{card_unless, card_from, card_read, finished, read_on, reading}
use Rattle.read_records.specs.Options.{Opened, OptionsSaid, options_command, options_said, after_options, initiated}
use Rattle.read_records.specs.Records.{held_in, held_in_all, gathered_all}
use Rattle.read_records.proofs.Gathering.{then_read, gathered_all-then}

-- the same records left, told otherwise
pub leads_left : (whole : List (List ℕ) → Progress ReadCard) (answers : List (List ℕ)) (entries : Entries) (left same : List RecordPlace) → left ≡ same
    → Leads whole answers (reading (record { entries = entries; left = left })) → Leads whole answers (reading (record { entries = entries; left = same }))
leads_left whole answers entries left same is leads later = leads later ∙ ap (λ (places : List RecordPlace). reading (record { entries = entries; left = places }) later) is

-- the map and the records that reading begins with
pub begun : (whole : List (List ℕ) → Progress (Option Opened)) (answers : List (List ℕ)) (entries more : Entries) (left same : List RecordPlace) → more ≡ entries → same ≡ left
    → Leads whole answers (Done (Some (record { entries = entries; left = left }))) → Leads whole answers (Done (Some (record { entries = more; left = same })))
begun whole answers entries more left same map_is left_is leads later =
    leads later ∙ ap (λ (start : Opened). let p : Progress (Option Opened) = Done (Some start) later in p) (let start : ◌≡◌ {A = Opened} (record { entries = entries; left = left }) (record { entries = more; left = same }) = cc in start)

pub options_wanted : (whole : List (List ℕ) → Progress (Option Opened)) (answers : List (List ℕ)) (given command : List ℕ)
    → command ≡ options_command given → Leads whole answers (initiated given) → whole answers ≡ Wants command
unfolding initiated
options_wanted whole answers given command is leads =
    leads_now whole (initiated given) answers leads ∙ ap (λ (bytes : List ℕ). let w : Progress (Option Opened) = Wants bytes in w) (sym is)

pub options_told : (whole : List (List ℕ) → Progress (Option Opened)) (answers : List (List ℕ)) (given answer : List ℕ) (said : OptionsSaid) → said ≡ options_said answer
    → Leads whole answers (initiated given) → Leads whole (answers ++ answer ∷ []) (after_options said)
unfolding initiated
options_told whole answers given answer said is leads =
    leads_more whole (initiated given) (after_options said) answers answer leads (λ later. ap (λ (s : OptionsSaid). after_options s later) (sym is))

pub record_wanted : (whole : List (List ℕ) → Progress ReadCard) (answers : List (List ℕ)) (entries : Entries) (place : RecordPlace) (left : List RecordPlace) (command : List ℕ)
    → command ≡ record_command place.sfi place.number → Leads whole answers (reading (record { entries = entries; left = place ∷ left })) → whole answers ≡ Wants command
unfolding reading
record_wanted whole answers entries place left command is leads =
    leads_now whole (reading (record { entries = entries; left = place ∷ left })) answers leads
    ∙ ap (λ (bytes : List ℕ). let w : Progress ReadCard = Wants bytes in w) (sym is)

-- reading on, where the objects of one answer were put
reading_by : List RecordPlace → Result Entries Cause → List (List ℕ) → Progress ReadCard
reading_by left (Ok entries) later = reading (record { entries = entries; left = left }) later
reading_by left (Err cause) later = Stopped cause

read_one : (first : Result Entries Cause) (left : List RecordPlace) (later : List (List ℕ))
    → read_on (then_read first (λ more. gathered_all more (held_in_all left later))) (drop (length later) left) (drop (length left) later)
    ≡ reading_by left first later
unfolding reading reading_by then_read
read_one (Ok entries) left later = refl
read_one (Err cause) left later = refl

reading-more : (entries : Entries) (place : RecordPlace) (left : List RecordPlace) (answer : List ℕ) (later : List (List ℕ))
    → reading (record { entries = entries; left = place ∷ left }) (answer ∷ later) ≡ reading_by left (gathered_all entries (held_in place.sfi answer)) later
unfolding reading
reading-more entries place left answer later =
    ap (λ (read : Result Entries Cause). read_on read (drop (length later) left) (drop (length left) later))
    (gathered_all-then (held_in place.sfi answer).objects (held_in place.sfi answer).fault (held_in_all left later) entries)
    ∙ read_one (gathered_all entries (held_in place.sfi answer)) left later

pub record_taken : (whole : List (List ℕ) → Progress ReadCard) (answers : List (List ℕ)) (entries more : Entries) (place : RecordPlace) (left : List RecordPlace) (answer : List ℕ)
    → Leads whole answers (reading (record { entries = entries; left = place ∷ left })) → gathered_all entries (held_in place.sfi answer) ≡ Ok more
    → Leads whole (answers ++ answer ∷ []) (reading (record { entries = more; left = left }))
unfolding reading_by
record_taken whole answers entries more place left answer leads put =
    leads_more whole (reading (record { entries = entries; left = place ∷ left })) (reading (record { entries = more; left = left })) answers answer leads
    (λ later. reading-more entries place left answer later ∙ ap (λ (read : Result Entries Cause). reading_by left read later) put)

pub record_refused : (whole : List (List ℕ) → Progress ReadCard) (answers : List (List ℕ)) (entries : Entries) (cause : Cause) (place : RecordPlace) (left : List RecordPlace) (answer : List ℕ)
    → Leads whole answers (reading (record { entries = entries; left = place ∷ left })) → gathered_all entries (held_in place.sfi answer) ≡ Err cause
    → Leads whole (answers ++ answer ∷ []) (λ _. Stopped cause)
unfolding reading_by
record_refused whole answers entries cause place left answer leads put =
    leads_more whole (reading (record { entries = entries; left = place ∷ left })) (λ _. Stopped cause) answers answer leads
    (λ later. reading-more entries place left answer later ∙ ap (λ (read : Result Entries Cause). reading_by left read later) put)

-- the end of reading
reading-end : (entries : Entries) (later : List (List ℕ)) → reading (record { entries = entries; left = [] }) later ≡ finished (card_unless entries (objects_fault entries)) later
unfolding reading
reading-end entries [] = refl
reading-end entries (answer ∷ later) = refl

pub all_read : (whole : List (List ℕ) → Progress ReadCard) (answers : List (List ℕ)) (entries : Entries) → objects_fault entries ≡ None
    → Leads whole answers (reading (record { entries = entries; left = [] })) → Leads whole answers (Done (card_of_objects entries))
all_read whole answers entries right leads later =
    leads later ∙ reading-end entries later ∙ ap (λ (fault : Option Cause). finished (card_unless entries fault) later) right

pub wrong_read : (whole : List (List ℕ) → Progress ReadCard) (answers : List (List ℕ)) (entries : Entries) (cause : Cause) → objects_fault entries ≡ Some cause
    → Leads whole answers (reading (record { entries = entries; left = [] })) → Leads whole answers (λ _. Stopped cause)
wrong_read whole answers entries cause wrong leads later =
    leads later ∙ reading-end entries later ∙ ap (λ (fault : Option Cause). finished (card_unless entries fault) later) wrong

whole_read : (read : Result Entries Cause) → read_on read [] [] ≡ finished (card_from read) []
whole_read (Ok entries) = refl
whole_read (Err cause) = refl

none_behind : {A : Type 0} (count : ℕ) (xs : List A) → count ≡ length xs → drop count xs ≡ []
none_behind count xs same = rw same (drop-length xs)

-- an answer for each record
pub reading-whole : (start : Opened) (answers : List (List ℕ)) → length answers ≡ length start.left → reading start answers ≡ finished (card_read start answers) []
unfolding reading card_read
reading-whole start answers as_many =
    rw (none_behind (length answers) start.left as_many, none_behind (length start.left) answers (sym as_many))
    (whole_read (gathered_all start.entries (held_in_all start.left answers)))
