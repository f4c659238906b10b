use Rattle.std.proofs.Common.{refl, [], ◌∷◌}
use Rattle.emv_dict.specs.declared.ending.Step.TheVariants as step
use Rattle.kernel.proofs.Opened.{taken_on, course_shifted}
use Rattle.kernel.proofs.reading.on_read.Goals as goal
use Rattle.kernel.specs.Dialogue.{restrictions}
use Rattle.read_records.specs.DataRead.{reading}
use Rattle.read_records.specs.Options.{Opened}
use Rattle.terminal_state.specs.Table.{outset_of}

pub returns-clause-stands : goal.returns-clause-stands
returns-clause-stands c = λ before now rest stands.
    let table = c.args.table.now in
    let start : Opened = record { entries = c.args.table.now.objects; left = c.args.at.now.course } in
    let whole = reading start in
    c.read_next.ensures.stands now (λ later. whole (c.args.reply.now ∷ later)) _
    (taken_on step.Read step.Read whole (λ card. restrictions (record { outset = outset_of table; row = c.args.at.now.row.now; card = card })) before rest stands.passed table.command.items stands.shows c.args.reply.now now)
    (course_shifted _ whole c.args.reply.now _ (c.go_on-next.ensures.leads whole [] (λ later. refl)))
