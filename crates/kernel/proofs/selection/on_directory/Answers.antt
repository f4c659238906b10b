use Rattle.std.proofs.Common.{refl, [], ◌∷◌}
use Rattle.emv_dict.specs.declared.ending.Step.TheVariants as step
use Rattle.kernel.proofs.Opened.{taken_on, directory_shifted}
use Rattle.kernel.proofs.selection.on_directory.Goals as goal
use Rattle.kernel.specs.Dialogue.{selected_then}
use Rattle.pse_directory.specs.Left.{directory_rest}
use Rattle.terminal_state.specs.Table.{outset_of}

pub returns-clause-stands : goal.returns-clause-stands
returns-clause-stands c = λ before now rest stands.
    let table = c.args.table.now in
    let whole = directory_rest c.args.state.listing in
    c.directory_next.ensures.stands now (λ later. whole (c.args.reply.now ∷ later)) _
    (taken_on c.args.state.cut step.Select whole (selected_then (outset_of table)) before rest stands.passed table.command.items stands.shows c.args.reply.now now)
    (directory_shifted _ whole c.args.reply.now _ (c.take_into-next.ensures.leads whole [] (λ later. refl)))
