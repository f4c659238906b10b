use Rattle.std.proofs.Common.{◌<◌, get_or, sym, arith}
use Rattle.std.proofs.lemmas.Grind.{common_steps}
use Rattle.std.proofs.lemmas.List.{take_all, get_or_default}
use Rattle.scenario_fields.proofs.Loops.{all_taken}
use Rattle.scenario.proofs.schedule.known_lanes.Goals as goal

pub loop-index-preserved : goal.loop-index-preserved
loop-index-preserved c = record {
  rest = grind (arith, common_steps);
  known =
      all_taken (λ number. number < c.args.lanes) c.args.schedule.now c.loop-index.index (get_or c.args.schedule.now c.loop-index.index 0)
      c.loop-index-test.true (sym (get_or_default _ _ _ _ c.loop-index-test.true)) c.loop-index.invariant.known (rw (← c.from.ensures) c.if-from-lanes.false);
}

pub returns-clause-known : goal.returns-clause-known
returns-clause-known c =
    rw (← take_all c.loop-index.index c.args.schedule.now c.loop-index-test.false) c.loop-index.invariant.known
