use Rattle.std.proofs.Common.{refl, ◌∷◌}
use Rattle.emv_dict.specs.declared.ending.Step.TheVariants as step
use Rattle.kernel.proofs.Following.{trading_stopped, begins_next}
use Rattle.kernel.proofs.risk.judge_next.Goals as goal
use Rattle.kernel.specs.Dialogue.{analysis}
use Rattle.terminal_state.specs.StepResults.{HasJudged}
use Rattle.kernel.specs.Transactions.{transaction_of}

pub analyse-requires : goal.analyse-requires
analyse-requires c = rw c.has_judged.ensures.scripts c.requires

pub returns-in-Done-clause-stands : goal.returns-in-Done-clause-stands
returns-in-Done-clause-stands c = λ steps_done log course rest begins leads.
    let transaction = transaction_of c.args.transaction.now in
    c.analyse.ensures.stands (HasJudged c.in-Done.judged ∷ steps_done) log rest
    (begins_next c.args.table.now _ c.args.transaction.now.card.now step.Risk steps_done _ log course (λ judged. analysis transaction (HasJudged judged ∷ steps_done)) c.in-Done.judged rest
    (c.has_judged.ensures.steps_done steps_done begins.tied) refl begins (rw c.in-Done.is at leads))

pub returns-in-Ended-clause-stands : goal.returns-in-Ended-clause-stands
returns-in-Ended-clause-stands c = λ steps_done log course rest begins leads.
    let transaction = transaction_of c.args.transaction.now in
    trading_stopped c.args.table.now c.args.table.now transaction step.Risk steps_done log course (λ judged. analysis transaction (HasJudged judged ∷ steps_done)) c.in-Ended.cause rest
    refl begins (rw c.in-Ended.is at leads)
