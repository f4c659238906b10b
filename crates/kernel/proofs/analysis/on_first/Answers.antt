use Rattle.std.proofs.Common.{refl, ◌∷◌}
use Rattle.emv_dict.specs.declared.ending.Step.TheVariants as step
use Rattle.kernel.proofs.Deciding.{ac_given, ac_refused}
use Rattle.kernel.proofs.Following.{trading_stopped, begins_next}
use Rattle.kernel.proofs.Taking.{begins_taken}
use Rattle.kernel.proofs.analysis.on_first.Goals as goal
use Rattle.kernel.specs.Dialogue.{first_answered}
use Rattle.kernel.specs.Stages.{generating}
use Rattle.kernel.specs.Transactions.{transaction_of}
use Rattle.online_step.specs.declared.ac.GenerateAc.TheVariants as generate
use Rattle.terminal_state.specs.StepResults.{HasFirst}

pub returns-in-Ok-clause-stands : goal.returns-in-Ok-clause-stands
returns-in-Ok-clause-stands c = λ before now rest stands.
    let transaction = transaction_of c.args.transaction.now in
    let course = generating c.args.table.now.command.items c.args.asked generate.First in
    c.decide.ensures.stands stands.steps_done now _
    (begins_next c.args.table.now c.args.table.now c.args.transaction.now.card.now step.First stands.steps_done stands.steps_done now (λ later. course (c.args.reply.now ∷ later))
    (λ ac. first_answered transaction ac (HasFirst ac ∷ stands.steps_done) ac.kind) c.in-Ok.ac _ stands.tied refl
    (begins_taken c.args.table.now c.args.transaction.now.card.now step.First stands.steps_done before now course (λ ac. first_answered transaction ac (HasFirst ac ∷ stands.steps_done) ac.kind)
    c.args.table.now.command.items rest stands.passed stands.tied stands.read refl c.args.reply.now)
    (λ later. ac_given c.args.reply.now c.args.asked generate.First c.in-Ok.ac later c.in-Ok.ensures.exact))

pub returns-in-Err-clause-stands : goal.returns-in-Err-clause-stands
returns-in-Err-clause-stands c = λ before now rest stands.
    let transaction = transaction_of c.args.transaction.now in
    let course = generating c.args.table.now.command.items c.args.asked generate.First in
    trading_stopped c.args.table.now c.args.table.now transaction step.First stands.steps_done now (λ later. course (c.args.reply.now ∷ later))
    (λ ac. first_answered transaction ac (HasFirst ac ∷ stands.steps_done) ac.kind) c.in-Err.cause _ refl
    (begins_taken c.args.table.now c.args.transaction.now.card.now step.First stands.steps_done before now course (λ ac. first_answered transaction ac (HasFirst ac ∷ stands.steps_done) ac.kind)
    c.args.table.now.command.items rest stands.passed stands.tied stands.read refl c.args.reply.now)
    (λ later. ac_refused c.args.reply.now c.args.asked generate.First c.in-Err.cause later c.in-Err.ensures.exact)
