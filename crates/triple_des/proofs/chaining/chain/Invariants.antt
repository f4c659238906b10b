use Rattle.std.proofs.Common.{◌≡◌, ◌++◌, ◌-◌, ◌*◌, drop}
use Rattle.triple_des.specs.Mac.{padded_text, first_blocks, blocks, chained_from, chained}
use Rattle.triple_des.proofs.chaining.chain.Given as goal

abbrev pub invariant-loop-index : goal.invariant-loop-index
invariant-loop-index l =
    chained_from l.key l.state (first_blocks (l.count - l.index) (drop (8 * l.index) (padded_text (l.head ++ l.tail)))) ≡ chained l.key (blocks (padded_text (l.head ++ l.tail)))
