use Rattle.std.proofs.Common.{refl, [], ◌∷◌}
use Rattle.emv_dict.specs.declared.ending.Step.TheVariants as step
use Rattle.kernel.proofs.Opened.{taken_on, options_shifted}
use Rattle.kernel.proofs.initiation.on_initiate.Goals as goal
use Rattle.kernel.specs.Dialogue.{granted, candidates_left}
use Rattle.read_records.specs.Options.{initiated}
use Rattle.terminal_state.specs.Table.{outset_of}

pub returns-clause-stands : goal.returns-clause-stands
returns-clause-stands c = λ before now rest stands.
    let table = c.args.table.now in
    let whole = initiated c.args.state.initiating in
    c.initiate_next.ensures.stands now (λ later. whole (c.args.reply.now ∷ later)) _
    (taken_on step.Initiate step.Initiate whole (granted (outset_of table) c.args.state.choice.row (candidates_left (outset_of table) table.candidates)) before rest stands.passed table.command.items stands.shows c.args.reply.now now)
    (options_shifted _ whole c.args.reply.now _ (c.take_into-next.ensures.leads whole [] (λ later. refl)))
