use Rattle.std.proofs.Common.{refl, []}
use Rattle.emv_dict.specs.declared.ending.Step.TheVariants as step
use Rattle.kernel.proofs.Opened.{asks_on}
use Rattle.kernel.proofs.reading.ask_record.Goals as goal
use Rattle.kernel.specs.Dialogue.{restrictions}
use Rattle.read_records.specs.DataRead.{reading}
use Rattle.read_records.specs.Options.{Opened}
use Rattle.terminal_state.specs.Table.{outset_of}

pub returns-clause-stands : goal.returns-clause-stands
returns-clause-stands c = λ log begun rest passed equal.
    let start : Opened = record { entries = c.args.table.now.objects; left = c.args.course } in record {
      passed = asks_on step.Read step.Read begun (λ card. restrictions (record { outset = outset_of c.args.table.now; row = c.args.row.now; card = card })) log rest passed (reading start) equal;
      tied = c.requires.fits.fresh;
      shows = c.ask.ensures.wants c.args.table.now.objects (reading start) [] (λ later. refl);
    }
