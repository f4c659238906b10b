use Rattle.std.proofs.Common.{◌≡◌, replicate}
use Rattle.triple_des.specs.Des.{des}
use Rattle.bench_work.specs.Work.{repeated}
use Rattle.bench_work.proofs.ciphers.keyed_over.Given as goal

abbrev pub invariant-loop-turn : goal.invariant-loop-turn
invariant-loop-turn l = l.key ≡ repeated l._turn (λ key. des key key) (replicate 8 0)
