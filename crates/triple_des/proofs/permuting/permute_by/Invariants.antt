use Rattle.std.proofs.Common.{◌≡◌, ℕ, List, ◌*◌, ◌%◌, ◌^◌, length}
use Rattle.triple_des.specs.Bits.{bits, pick}
use Rattle.triple_des.specs.Nibbles.{AreTables}
use Rattle.triple_des.proofs.permuting.permute_by.Given as goal

abbrev pub invariant-loop-index : goal.invariant-loop-index
invariant-loop-index l =
    (places : List ℕ) → AreTables places l.tables → bits (length places) l.out ≡ pick places (bits (4 * length l.tables) (l.word % 2 ^ (4 * l.index)))
