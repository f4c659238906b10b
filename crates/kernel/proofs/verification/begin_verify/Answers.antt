use Rattle.cvm_list.specs.Begun.{cvm}
use Rattle.kernel.specs.Dialogue.{verification}
use Rattle.kernel.proofs.verification.begin_verify.Goals as goal

pub returns-clause-stands : goal.returns-clause-stands
unfolding verification
returns-clause-stands c = λ steps_done rest begins.
    c.verify_next.ensures.stands steps_done (cvm c.args.transaction.now.card.now c.args.transaction.now.settings.now c.args.transaction.now.purchase.now) rest
    (record { passed = begins.passed; tied = begins.tied; read = begins.read }) c.begin-next.ensures.leads
