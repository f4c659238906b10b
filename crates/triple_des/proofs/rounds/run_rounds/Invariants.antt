use Rattle.std.proofs.Common.{◌≡◌, map, drop}
use Rattle.triple_des.specs.Bits.{bits}
use Rattle.triple_des.specs.Des.{rounds}
use Rattle.triple_des.proofs.rounds.run_rounds.Given as goal

abbrev pub invariant-loop-key : goal.invariant-loop-key
invariant-loop-key l =
    rounds (map (bits 48) (drop l.key-index l.keys)) (bits 32 l.left, bits 32 l.right) ≡ rounds (map (bits 48) l.keys) (bits 32 l.fn.left, bits 32 l.fn.right)
