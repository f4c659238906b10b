use Rattle.std.proofs.Common.{arith, ◌∙◌}
use Rattle.std.proofs.lemmas.List.{take_rest}
use Rattle.emv_ports.proofs.Growth.{IsSoFar-take}
use Rattle.emv_ports.proofs.transfer.write_all.Goals as goal

pub loop-done-preserved : goal.loop-done-preserved
loop-done-preserved g c = record {
  within = omega (arith, c.in-Ok.ensures.bound);
  so_far = IsSoFar-take _ _ _ c.args.text.now c.loop-done.done c.in-Ok.count c.loop-done.invariant.so_far
      (rw (take_rest c.args.text.now c.loop-done.done) at c.in-Ok.ensures.bytes);
  calm = c.in-Ok.ensures.cause.stays ∙ c.loop-done.invariant.calm;
}
