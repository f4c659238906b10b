-- What the step that comes next does with the later answers.
use Rattle.std.specs.Prelude.{⊤, ℕ, List, [], Option, Some, None}
use Rattle.emv_dict.specs.Progress.{Progress, Stopped, Done, Leads}
use Rattle.env_map.specs.Entries.{Entries}
use Rattle.object_lists.specs.CardRead.{ReadCard, card_of_objects}
use Rattle.read_records.specs.Afl.{RecordPlace}
use Rattle.read_records.specs.DataRead.{reading}
use Rattle.read_records.specs.Options.{Opened}
use Rattle.read_records.specs.declared.initiating.InitiateNext.{InitiateNext}
use Rattle.read_records.specs.declared.initiating.InitiateNext.TheVariants as initiate
use Rattle.read_records.specs.declared.initiating.OptionsNext.{OptionsNext}
use Rattle.read_records.specs.declared.initiating.OptionsNext.TheVariants as options
use Rattle.read_records.specs.declared.reading.RecordsNext.{RecordsNext}
use Rattle.read_records.specs.declared.reading.RecordsNext.TheVariants as course
use Rattle.read_records.specs.declared.reading.ReadNext.{ReadNext}
use Rattle.read_records.specs.declared.reading.ReadNext.TheVariants as read

-- behind these answers the whole is done with reading, stopped, or reads on over these objects
abbrev pub CourseNextLeads : Entries → (List (List ℕ) → Progress ReadCard) → List (List ℕ) → RecordsNext → Type 0
CourseNextLeads entries whole answers (course.Ask c) = Leads whole answers (reading (record { entries = entries; left = c }))
CourseNextLeads entries whole answers course.Done = Leads whole answers (Done (card_of_objects entries))
CourseNextLeads entries whole answers (course.Ended cause) = Leads whole answers (λ _. Stopped cause)

-- the whole goes on as the call for the answer to READ RECORD says
abbrev pub ReadNextLeads : (List (List ℕ) → Progress ReadCard) → List (List ℕ) → ReadNext → Type 0
ReadNextLeads whole answers (read.Ask r) = Leads whole answers (reading r)
ReadNextLeads whole answers (read.Done card) = Leads whole answers (Done card)
ReadNextLeads whole answers (read.Ended cause) = Leads whole answers (λ _. Stopped cause)

-- the records that are left to be read
abbrev pub records_left_next : RecordsNext → List RecordPlace
records_left_next (course.Ask c) = c
records_left_next course.Done = []
records_left_next (course.Ended cause) = []

-- reading begins
abbrev pub IsBegun : OptionsNext → Type 0
IsBegun options.Refused = ⊥
IsBegun (options.Read c) = ⊤
IsBegun (options.Ended cause) = ⊥

-- the records that it reads
abbrev pub begun_next : OptionsNext → List RecordPlace
begun_next options.Refused = []
begun_next (options.Read c) = c
begun_next (options.Ended cause) = []

-- the same for initiating: reading begins over these objects, or the application is refused
abbrev pub OptionsNextLeads : Entries → (List (List ℕ) → Progress (Option Opened)) → List (List ℕ) → OptionsNext → Type 0
OptionsNextLeads entries whole answers options.Refused = Leads whole answers (Done None)
OptionsNextLeads entries whole answers (options.Read c) = Leads whole answers (Done (Some (record { entries = entries; left = c })))
OptionsNextLeads entries whole answers (options.Ended cause) = Leads whole answers (λ _. Stopped cause)

-- the whole goes on as the call for the answer to GET PROCESSING OPTIONS says
abbrev pub InitiateNextLeads : (List (List ℕ) → Progress (Option Opened)) → List (List ℕ) → InitiateNext → Type 0
InitiateNextLeads whole answers initiate.Refused = Leads whole answers (Done None)
InitiateNextLeads whole answers (initiate.Read r) = Leads whole answers (Done (Some r))
InitiateNextLeads whole answers (initiate.Ended cause) = Leads whole answers (λ _. Stopped cause)
