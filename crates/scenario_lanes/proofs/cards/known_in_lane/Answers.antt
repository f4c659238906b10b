use Rattle.std.proofs.Common.{◌<◌, arith}
use Rattle.std.proofs.lemmas.Grind.{common_steps}
use Rattle.scenario_fields.proofs.Loops.{all_taken}
use Rattle.scenario_lanes.proofs.cards.known_in_lane.Goals as goal

pub loop-index-preserved : goal.loop-index-preserved
loop-index-preserved c = record {
  rest = grind (arith, common_steps);
  known =
      all_taken (λ planned. planned.card < c.args.cards) c.args.purchases.now c.loop-index.index c.index-purchases-index.result
      c.loop-index-test.true c.index-purchases-index.is c.loop-index.invariant.known c.if-planned-cards.false;
}
