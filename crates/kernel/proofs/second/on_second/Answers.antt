use Rattle.std.proofs.Common.{refl, ◌∷◌}
use Rattle.emv_dict.specs.declared.ending.Step.TheVariants as step
use Rattle.kernel.proofs.Deciding.{ac_given, ac_refused}
use Rattle.kernel.proofs.Following.{trading_stopped, begins_next}
use Rattle.kernel.proofs.Taking.{begins_taken}
use Rattle.kernel.proofs.second.on_second.Goals as goal
use Rattle.kernel.specs.Dialogue.{scripts_behind, decision}
use Rattle.kernel.specs.Stages.{generating, behind_if}
use Rattle.online_step.specs.declared.ac.GenerateAc.TheVariants as generate
use Rattle.terminal_state.specs.StepResults.{HasSecond}

pub returns-in-Ok-clause-stands : goal.returns-in-Ok-clause-stands
returns-in-Ok-clause-stands c = λ transaction before now rest stands.
    let course = generating c.args.table.now.command.items c.args.state.asked generate.Second in
    c.finish.ensures.stands transaction stands.steps_done now _
    (begins_next c.args.table.now c.args.table.now transaction.card step.Second stands.steps_done stands.steps_done now (λ later. course (c.args.reply.now ∷ later))
    (λ ac. scripts_behind (decision c.args.state.outcome ac.kind) (behind_if c.args.state.outcome c.args.table.now.reply.scripts) (HasSecond ac ∷ stands.steps_done)) c.in-Ok.ac _ stands.tied refl
    (begins_taken c.args.table.now transaction.card step.Second stands.steps_done before now course
    (λ ac. scripts_behind (decision c.args.state.outcome ac.kind) (behind_if c.args.state.outcome c.args.table.now.reply.scripts) (HasSecond ac ∷ stands.steps_done))
    c.args.table.now.command.items rest stands.passed stands.tied stands.read refl c.args.reply.now)
    (λ later. ac_given c.args.reply.now c.args.state.asked generate.Second c.in-Ok.ac later c.in-Ok.ensures.exact))

pub returns-in-Err-clause-stands : goal.returns-in-Err-clause-stands
returns-in-Err-clause-stands c = λ transaction before now rest stands.
    let course = generating c.args.table.now.command.items c.args.state.asked generate.Second in
    trading_stopped c.args.table.now c.args.table.now transaction step.Second stands.steps_done now (λ later. course (c.args.reply.now ∷ later))
    (λ ac. scripts_behind (decision c.args.state.outcome ac.kind) (behind_if c.args.state.outcome c.args.table.now.reply.scripts) (HasSecond ac ∷ stands.steps_done)) c.in-Err.cause _ refl
    (begins_taken c.args.table.now transaction.card step.Second stands.steps_done before now course
    (λ ac. scripts_behind (decision c.args.state.outcome ac.kind) (behind_if c.args.state.outcome c.args.table.now.reply.scripts) (HasSecond ac ∷ stands.steps_done))
    c.args.table.now.command.items rest stands.passed stands.tied stands.read refl c.args.reply.now)
    (λ later. ac_refused c.args.reply.now c.args.state.asked generate.Second c.in-Err.cause later c.in-Err.ensures.exact)
