use Rattle.std.proofs.Common.{◌≡◌, ◌++◌, length, take, drop}
use Rattle.triple_des.specs.Mac.{padded_text}
use Rattle.triple_des.proofs.chaining.padded_block.Given as goal

abbrev pub invariant-loop-index : goal.invariant-loop-index
invariant-loop-index l =
    (length l.block ≡ 8) × (take l.index l.block ≡ take l.index (drop l.at (padded_text (l.head ++ l.tail))))
