use Rattle.std.proofs.Common.{refl, []}
use Rattle.emv_dict.specs.declared.ending.Step.TheVariants as step
use Rattle.kernel.proofs.Opened.{asks_on, done_on, stopped_on}
use Rattle.kernel.proofs.reading.read_next.Goals as goal
use Rattle.kernel.specs.Dialogue.{restrictions}
use Rattle.object_lists.specs.CardRead.{card_of_objects}
use Rattle.read_records.specs.DataRead.{reading}
use Rattle.read_records.specs.Options.{Opened}
use Rattle.terminal_state.specs.Table.{outset_of}

pub returns-in-Ask-clause-stands : goal.returns-in-Ask-clause-stands
returns-in-Ask-clause-stands c = λ log course rest passed leads.
    let at = c.args.at.now in
    let start : Opened = record { entries = c.args.table.now.objects; left = at.course } in
    rw c.in-Ask.is (record {
      passed = asks_on step.Read step.Read course (λ card. restrictions (record { outset = outset_of c.args.table.now; row = at.row.now; card = card })) log rest passed (reading start) (rw c.in-Ask.is at leads);
      tied = c.requires.fits.fresh;
      shows = c.ask.ensures.wants c.args.table.now.objects (reading start) [] (λ later. refl);
    })

pub returns-in-Done-clause-stands : goal.returns-in-Done-clause-stands
returns-in-Done-clause-stands c = λ log course rest passed leads.
    rw c.in-Done.is
    (done_on step.Read step.Read course (λ card. restrictions (record { outset = outset_of c.args.table.now; row = c.args.at.now.row.now; card = card })) log rest passed (card_of_objects c.args.table.now.objects) (rw c.in-Done.is at leads))

pub returns-in-Ended-clause-stands : goal.returns-in-Ended-clause-stands
returns-in-Ended-clause-stands c = λ log course rest passed leads.
    rw c.in-Ended.is (record {
      passed = stopped_on step.Read step.Read course (λ card. restrictions (record { outset = outset_of c.args.table.now; row = c.args.at.now.row.now; card = card })) log rest passed _ (rw c.in-Ended.is at leads);
      tied = c.requires.fits.fresh;
      shows = tt;
    })
