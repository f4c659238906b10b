use Rattle.std.proofs.Common.{refl, ◌∷◌}
use Rattle.emv_dict.specs.declared.ending.Step.TheVariants as step
use Rattle.kernel.proofs.Following.{trading_stopped, begins_next}
use Rattle.kernel.proofs.Hearing.{verdict_given, verdict_refused}
use Rattle.kernel.proofs.Taking.{begins_taken}
use Rattle.kernel.proofs.online.on_authenticate.Goals as goal
use Rattle.kernel.specs.Dialogue.{issuer_scripts}
use Rattle.kernel.specs.Stages.{authenticating}
use Rattle.kernel.specs.Transactions.{transaction_of}
use Rattle.terminal_state.specs.StepResults.{HasAuthenticated}

pub returns-in-Ok-clause-stands : goal.returns-in-Ok-clause-stands
returns-in-Ok-clause-stands c = λ before now rest stands.
    let transaction = transaction_of c.args.transaction.now in
    let course = authenticating c.args.table.now.command.items in
    c.run_before.ensures.stands (HasAuthenticated c.in-Ok.good ∷ stands.steps_done) now _
    (begins_next c.args.table.now _ c.args.transaction.now.card.now step.Authenticate stands.steps_done (HasAuthenticated c.in-Ok.good ∷ stands.steps_done) now (λ later. course (c.args.reply.now ∷ later))
    (λ good. issuer_scripts transaction c.args.table.now.reply (HasAuthenticated good ∷ stands.steps_done)) c.in-Ok.good _ (c.has_authenticated.ensures.steps_done stands.steps_done stands.tied) refl
    (begins_taken c.args.table.now c.args.transaction.now.card.now step.Authenticate stands.steps_done before now course (λ good. issuer_scripts transaction c.args.table.now.reply (HasAuthenticated good ∷ stands.steps_done))
    c.args.table.now.command.items rest stands.passed stands.tied stands.read refl c.args.reply.now)
    (λ later. verdict_given c.args.reply.now c.in-Ok.good later c.in-Ok.ensures))

pub returns-in-Err-clause-stands : goal.returns-in-Err-clause-stands
returns-in-Err-clause-stands c = λ before now rest stands.
    let transaction = transaction_of c.args.transaction.now in
    let course = authenticating c.args.table.now.command.items in
    trading_stopped c.args.table.now c.args.table.now transaction step.Authenticate stands.steps_done now (λ later. course (c.args.reply.now ∷ later))
    (λ good. issuer_scripts transaction c.args.table.now.reply (HasAuthenticated good ∷ stands.steps_done)) c.in-Err.cause _ refl
    (begins_taken c.args.table.now c.args.transaction.now.card.now step.Authenticate stands.steps_done before now course (λ good. issuer_scripts transaction c.args.table.now.reply (HasAuthenticated good ∷ stands.steps_done))
    c.args.table.now.command.items rest stands.passed stands.tied stands.read refl c.args.reply.now)
    (λ later. verdict_refused c.args.reply.now c.in-Err.cause later c.in-Err.ensures)
