-- What reading gives (EMV 4.3 Book 3 sections 10.1 and 10.2).
use Rattle.std.specs.Prelude.{ℕ, List, [], ◌∷◌, drop, length, Option, Some, None, Result, Ok, Err}
use Rattle.apdu_core.specs.Command.{record_command}
use Rattle.apdu_core.specs.Status.{conditions_not_satisfied}
use Rattle.emv_dict.specs.Progress.{Progress, Wants, Stopped, Done}
use Rattle.emv_dict.specs.declared.ending.Cause.{Cause}
use Rattle.emv_dict.specs.declared.ending.Cause.TheVariants.{Status}
use Rattle.emv_dict.specs.declared.ending.Step.{Step}
use Rattle.emv_dict.specs.declared.ending.Step.TheVariants.{Initiate, Read}
use Rattle.env_map.specs.Entries.{Entries}
use Rattle.object_lists.specs.CardRead.{ReadCard, card_of_objects}
use Rattle.read_records.specs.Afl.{RecordPlace}
use Rattle.object_lists.specs.Checked.{objects_fault}
use Rattle.read_records.specs.Options.{Opened, OptionsSaid, Refused, Granted, Faulty, options_said}
use Rattle.read_records.specs.Records.{held_in_all, gathered_all}

abbrev pub card_unless : Entries → Option Cause → Result ReadCard Cause
card_unless entries None = Ok (card_of_objects entries)
card_unless entries (Some cause) = Err cause

-- what all objects make, or the first fault
abbrev pub card_from : Result Entries Cause → Result ReadCard Cause
card_from (Ok entries) = card_unless entries (objects_fault entries)
card_from (Err cause) = Err cause

-- what these answers to READ RECORD, one for each record, make of what reading begins with
unfoldable pub card_read : Opened → List (List ℕ) → Result ReadCard Cause
card_read start answers = card_from (gathered_all start.entries (held_in_all start.left answers))

-- a value, or its fault with the step in which it came
abbrev pub at_step : {A : Type 0} → Step → Result A Cause → Result A (Step × Cause)
at_step step (Ok value) = Ok value
at_step step (Err cause) = Err (step, cause)

-- an application that is refused gives no data
abbrev pub data_from : OptionsSaid → List (List ℕ) → Result ReadCard (Step × Cause)
data_from Refused answers = Err (Initiate, Status conditions_not_satisfied)
data_from (Faulty cause) answers = Err (Initiate, cause)
data_from (Granted start) answers = at_step Read (card_read start answers)

-- the data of a card from its answer to GET PROCESSING OPTIONS and those to READ RECORD, one for each
-- record of its locator; or the first fault, with its step
abbrev pub data_read : List ℕ → List (List ℕ) → Result ReadCard (Step × Cause)
data_read options answers = data_from (options_said options) answers

-- reading is done with this card, or stopped by this cause
abbrev pub finished : Result ReadCard Cause → List (List ℕ) → Progress ReadCard
finished (Ok card) rest = Done card rest
finished (Err cause) rest = Stopped cause

-- the first fault so far; else the command for the next record, or what all of them give
abbrev pub read_on : Result Entries Cause → List RecordPlace → List (List ℕ) → Progress ReadCard
read_on (Err cause) left rest = Stopped cause
read_on (Ok entries) (place ∷ left) rest = Wants (record_command place.sfi place.number)
read_on (Ok entries) [] rest = finished (card_unless entries (objects_fault entries)) rest

-- the step over the answers
unfoldable pub reading : Opened → List (List ℕ) → Progress ReadCard
reading start answers =
    read_on (gathered_all start.entries (held_in_all start.left answers)) (drop (length answers) start.left) (drop (length start.left) answers)
