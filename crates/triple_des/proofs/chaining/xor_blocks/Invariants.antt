use Rattle.std.proofs.Common.{◌≡◌, length, take}
use Rattle.triple_des.specs.Bits.{xor_bytes}
use Rattle.triple_des.proofs.chaining.xor_blocks.Given as goal

abbrev pub invariant-loop-index : goal.invariant-loop-index
invariant-loop-index l =
    (length l.sum ≡ 8) × (take l.index l.sum ≡ xor_bytes (take l.index l.first) (take l.index l.second))
