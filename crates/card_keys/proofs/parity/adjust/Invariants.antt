use Rattle.card_keys.proofs.OddBytes.{IsAdjusted}
use Rattle.card_keys.proofs.parity.adjust.Given as goal

abbrev pub invariant-loop-index : goal.invariant-loop-index
invariant-loop-index l = IsAdjusted l.bytes l.adjusted l.index
