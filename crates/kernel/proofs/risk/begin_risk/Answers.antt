use Rattle.risk_mgmt.specs.Risky.{risky}
use Rattle.kernel.specs.Dialogue.{risk}
use Rattle.kernel.proofs.risk.begin_risk.Goals as goal

pub returns-clause-stands : goal.returns-clause-stands
unfolding risk
returns-clause-stands c = λ steps_done rest begins.
    c.judge_next.ensures.stands steps_done c.args.transaction.now.log.now
    (risky c.args.transaction.now.card.now c.args.transaction.now.settings.now c.args.transaction.now.row.now c.args.transaction.now.purchase.now c.args.transaction.now.log.now) rest
    (record { passed = begins.passed; tied = begins.tied; read = begins.read }) c.begin-next.ensures.leads
