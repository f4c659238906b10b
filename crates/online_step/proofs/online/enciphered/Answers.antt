use Rattle.online_step.proofs.Digits.{pan_least}
use Rattle.online_step.proofs.online.enciphered.Goals as goal

pub online_block-requires-clause-pan : goal.online_block-requires-clause-pan
online_block-requires-clause-pan c = pan_least _ c.card.invariant
