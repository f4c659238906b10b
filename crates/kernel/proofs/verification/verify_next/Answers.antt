use Rattle.std.proofs.Common.{refl, ◌∷◌}
use Rattle.emv_dict.specs.declared.ending.Step.TheVariants as step
use Rattle.kernel.proofs.Following.{trading_stopped, begins_next}
use Rattle.kernel.proofs.verification.verify_next.Goals as goal
use Rattle.kernel.specs.Dialogue.{risk}
use Rattle.terminal_state.specs.StepResults.{HasVerified}
use Rattle.kernel.specs.Transactions.{transaction_of}

pub begin_risk-requires : goal.begin_risk-requires
begin_risk-requires c = rw c.has_verified.ensures.scripts c.requires

pub returns-in-Done-clause-stands : goal.returns-in-Done-clause-stands
returns-in-Done-clause-stands c = λ steps_done course rest begins leads.
    let transaction = transaction_of c.args.transaction.now in
    c.begin_risk.ensures.stands (HasVerified c.in-Done.verified ∷ steps_done) rest
    (begins_next c.args.table.now _ c.args.transaction.now.card.now step.Verify steps_done _ c.args.transaction.now.log.now course (λ verified. risk transaction (HasVerified verified ∷ steps_done)) c.in-Done.verified rest
    (c.has_verified.ensures.steps_done steps_done begins.tied) refl begins (rw c.in-Done.is at leads))

pub returns-in-Ended-clause-stands : goal.returns-in-Ended-clause-stands
returns-in-Ended-clause-stands c = λ steps_done course rest begins leads.
    let transaction = transaction_of c.args.transaction.now in
    trading_stopped c.args.table.now c.args.table.now transaction step.Verify steps_done c.args.transaction.now.log.now course (λ verified. risk transaction (HasVerified verified ∷ steps_done)) c.in-Ended.cause rest
    refl begins (rw c.in-Ended.is at leads)
