use Rattle.std.proofs.Common.{refl, ◌∷◌, [], ap}
use Rattle.kernel.proofs.Hearing.{settles}
use Rattle.kernel.proofs.Scripting.{behind_end}
use Rattle.kernel.proofs.second.finish.Goals as goal
use Rattle.kernel.specs.Stages.{behind_if}
use Rattle.kernel.specs.declared.stage.OnlineOutcome.{OnlineOutcome}
use Rattle.terminal_state.specs.StepResults.{HasSecond}
use Rattle.terminal_state.specs.Scripts.{templates_of_tag}

pub returns-in-Replied-clause-stands : goal.returns-in-Replied-clause-stands
returns-in-Replied-clause-stands c = λ transaction steps_done log rest begins.
    c.run_behind.ensures.stands transaction (HasSecond c.args.ac ∷ steps_done) log rest
    (settles c.args.table.now _ transaction steps_done log rest c.args.outcome c.args.ac c.ending_of-ending.result c.args.table.now.reply.scripts (templates_of_tag 0x72 c.args.table.now.reply.scripts) begins c.ending_of-ending.ensures
    (ap (λ (outcome : OnlineOutcome). behind_if outcome c.args.table.now.reply.scripts) c.in-Replied.is) (c.has_second.ensures.steps_done steps_done begins.tied))

pub returns-in-Unable-clause-stands : goal.returns-in-Unable-clause-stands
returns-in-Unable-clause-stands c = λ transaction steps_done log rest begins.
    behind_end _ transaction c.ending_of-ending.result [] (HasSecond c.args.ac ∷ steps_done) log rest refl
    (settles c.args.table.now _ transaction steps_done log rest c.args.outcome c.args.ac c.ending_of-ending.result c.args.table.now.reply.scripts [] begins c.ending_of-ending.ensures
    (ap (λ (outcome : OnlineOutcome). behind_if outcome c.args.table.now.reply.scripts) c.in-Unable.is) (c.has_second.ensures.steps_done steps_done begins.tied))
