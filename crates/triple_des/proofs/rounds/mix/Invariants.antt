use Rattle.std.proofs.Common.{◌≡◌}
use Rattle.triple_des.specs.Bits.{bits, pick, xor}
use Rattle.triple_des.specs.Tables.{expansion_table}
use Rattle.triple_des.proofs.Boxes.{so_far}
use Rattle.triple_des.proofs.rounds.mix.Given as goal

abbrev pub invariant-loop-number : goal.invariant-loop-number
invariant-loop-number l =
    bits 32 l.out ≡ so_far l.number (xor (pick expansion_table (bits 32 l.right)) (bits 48 l.key))
