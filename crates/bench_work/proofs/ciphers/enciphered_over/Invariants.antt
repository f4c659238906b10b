use Rattle.std.proofs.Common.{◌≡◌, replicate}
use Rattle.triple_des.specs.Des.{enciphered}
use Rattle.bench_work.specs.Work.{repeated}
use Rattle.bench_work.proofs.ciphers.enciphered_over.Given as goal

abbrev pub invariant-loop-done : goal.invariant-loop-done
invariant-loop-done l = l.block ≡ repeated l._done (enciphered l.des) (replicate 8 0)
