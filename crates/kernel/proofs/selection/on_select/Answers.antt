use Rattle.std.proofs.Common.{refl, [], ◌∷◌}
use Rattle.app_select.specs.Leading.{rest_with}
use Rattle.emv_dict.specs.declared.ending.Step.TheVariants as step
use Rattle.kernel.proofs.Opened.{taken_on, search_shifted}
use Rattle.kernel.proofs.selection.on_select.Goals as goal
use Rattle.kernel.specs.Dialogue.{selected_then}
use Rattle.terminal_state.specs.Table.{outset_of}

pub returns-clause-stands : goal.returns-clause-stands
returns-clause-stands c = λ before now rest stands.
    let table = c.args.table.now in
    let whole = rest_with c.args.state.search table.candidates in
    c.search_next.ensures.stands now (λ later. whole (c.args.reply.now ∷ later)) _
    (taken_on c.args.state.cut step.Select whole (selected_then (outset_of table)) before rest stands.passed table.command.items stands.shows c.args.reply.now now)
    (search_shifted _ whole c.args.reply.now _ (c.take-next.ensures.leads whole [] (λ later. refl)))
