use Rattle.pin_block.proofs.OnlineLemmas.{field_covers}
use Rattle.pin_block.proofs.online.online_block.Goals as goal

pub returns-clause-account : goal.returns-clause-account
returns-clause-account c = λ front twelve check dozen is.
    cc (field_covers c.args.pan.now front twelve check dozen is, c.encipher.ensures.value)
