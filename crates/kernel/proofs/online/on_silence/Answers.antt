use Rattle.kernel.specs.Transactions.{transaction_of}
use Rattle.kernel.proofs.Hearing.{silent}
use Rattle.kernel.proofs.online.on_silence.Goals as goal

pub returns-clause-stands : goal.returns-clause-stands
returns-clause-stands c = λ log rest stands.
    c.be_unable.ensures.stands stands.steps_done log _
    (silent c.args.table.now (transaction_of c.args.transaction.now) stands.steps_done c.args.table.now.message.items log rest stands.passed stands.tied stands.read)
