-- What is noted beside a card in a reader.
use Rattle.std.specs.Prelude.{Option, Some, None}
use Rattle.card_app.specs.declared.reason.Reason.{Reason}
use Rattle.emv_ports.specs.declared.tear.Tear.{Tear}

-- the plan under which it is powered up until it has fired, the one that replaces it at the next power-up, the one that
-- fired last, and why the last cryptogram since the power-up is of its kind
pub record NotesData : Type 0 where
  pub plan : Option Tear
  pub next : Option Tear
  pub torn : Option Tear
  pub why : Option Reason

-- nothing is planned, nothing has fired, and no cryptogram was made
abbrev pub no_notes : NotesData
no_notes = record { plan = None; next = None; torn = None; why = None }

-- the plan of the next power-up
abbrev pub later_plan : Option Tear → Option Tear → Option Tear
later_plan plan None = plan
later_plan plan (Some tear) = Some tear

abbrev pub plan_of : NotesData → Option Tear
plan_of notes = later_plan notes.plan notes.next

-- behind a power-up with its plan
abbrev pub powered_notes : NotesData → NotesData
powered_notes notes = record notes { plan = plan_of notes; next = None; why = None }

-- the plan has fired
abbrev pub torn_notes : NotesData → NotesData
torn_notes notes = record notes { plan = None; torn = notes.plan }

-- behind a command: the last cryptogram is that of this command, where it makes one
abbrev pub later_reason : Option Reason → Option Reason → Option Reason
later_reason before None = before
later_reason before (Some reason) = Some reason

abbrev pub answered_notes : NotesData → Option Reason → NotesData
answered_notes notes reason = record notes { why = later_reason notes.why reason }
