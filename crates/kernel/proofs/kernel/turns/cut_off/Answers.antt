use Rattle.app_select.specs.Leading.{rest_with}
use Rattle.emv_dict.specs.declared.ending.Step.TheVariants as step
use Rattle.kernel.proofs.Opened.{gone_on}
use Rattle.kernel.proofs.kernel.turns.cut_off.Goals as goal
use Rattle.kernel.specs.Dialogue.{granted, candidates_left, restrictions, selected_then}
use Rattle.kernel.specs.Stages.{OpeningStands}
use Rattle.kernel.specs.declared.stage.Opening.TheVariants as stage
use Rattle.pse_directory.specs.Left.{directory_rest}
use Rattle.read_records.specs.DataRead.{reading}
use Rattle.read_records.specs.Options.{Opened, initiated}
use Rattle.terminal_state.specs.Table.{outset_of}

pub returns-in-Directory-clause-stands : goal.returns-in-Directory-clause-stands
returns-in-Directory-clause-stands c = λ table before rest at_stage.
    let s = c.in-Directory.state in
    let stands : OpeningStands table (stage.Directory s) before rest = rw c.in-Directory.is at at_stage in record {
      passed = gone_on s.cut step.Select (directory_rest s.listing) (selected_then (outset_of table)) before rest stands.passed table.command.items stands.shows;
      tied = stands.tied;
      shows = tt;
    }

pub returns-in-Select-clause-stands : goal.returns-in-Select-clause-stands
returns-in-Select-clause-stands c = λ table before rest at_stage.
    let s = c.in-Select.state in
    let stands : OpeningStands table (stage.Select s) before rest = rw c.in-Select.is at at_stage in record {
      passed = gone_on s.cut step.Select (rest_with s.search table.candidates) (selected_then (outset_of table)) before rest stands.passed table.command.items stands.shows;
      tied = stands.tied;
      shows = tt;
    }

pub returns-in-Initiate-clause-stands : goal.returns-in-Initiate-clause-stands
returns-in-Initiate-clause-stands c = λ table before rest at_stage.
    let s = c.in-Initiate.field-0 in
    let stands : OpeningStands table (stage.Initiate s) before rest = rw c.in-Initiate.is at at_stage in record {
      passed = gone_on step.Initiate step.Initiate (initiated s.initiating) (granted (outset_of table) s.choice.row (candidates_left (outset_of table) table.candidates)) before rest stands.passed table.command.items stands.shows;
      tied = stands.tied;
      shows = tt;
    }

pub returns-in-Read-clause-stands : goal.returns-in-Read-clause-stands
returns-in-Read-clause-stands c = λ table before rest at_stage.
    let s = c.in-Read.field-0 in
    let start : Opened = record { entries = table.objects; left = s.course } in
    let stands : OpeningStands table (stage.Read s) before rest = rw c.in-Read.is at at_stage in record {
      passed = gone_on step.Read step.Read (reading start) (λ card. restrictions (record { outset = outset_of table; row = s.row.now; card = card })) before rest stands.passed table.command.items stands.shows;
      tied = stands.tied;
      shows = tt;
    }
