use Rattle.kernel.specs.Transactions.{transaction_of}
use Rattle.kernel.proofs.Keeping.{sound_reply}
use Rattle.kernel.proofs.Hearing.{unread, heard}
use Rattle.kernel.proofs.online.on_reply.Goals as goal

pub take_reply-requires-clause-sound : goal.take_reply-requires-clause-sound
take_reply-requires-clause-sound c = sound_reply c.args.reply.now _ c.in-Ok.ensures.value

pub returns-in-Ok-clause-stands : goal.returns-in-Ok-clause-stands
returns-in-Ok-clause-stands c = λ log rest stands.
    c.take_reply.ensures.stands stands.steps_done log _
    (heard c.args.table.now (transaction_of c.args.transaction.now) stands.steps_done c.args.table.now.message.items log rest c.args.reply.now _ stands.passed stands.tied stands.read c.in-Ok.ensures.value)

pub returns-in-Err-clause-stands : goal.returns-in-Err-clause-stands
returns-in-Err-clause-stands c = λ log rest stands.
    c.be_unable.ensures.stands stands.steps_done log _
    (unread c.args.table.now (transaction_of c.args.transaction.now) stands.steps_done c.args.table.now.message.items log rest c.args.reply.now _ stands.passed stands.tied stands.read c.in-Err.ensures.value)
