use Rattle.std.proofs.Common.{map, rules, arith}
use Rattle.std.proofs.lemmas.List.Elements.{All-push}
use Rattle.scenario_fields.proofs.Loops.{each_pushed}
use Rattle.scenario_fields.specs.TablePaths.{path}
use Rattle.scenario_lanes.specs.Plan.{IsPlanned}
use Rattle.scenario_lanes.specs.Purchases.{planned_item}
use Rattle.scenario_lanes.proofs.purchase.read_purchases.Goals as goal

pub loop-value-preserved : goal.loop-value-preserved
loop-value-preserved c = record {
  count = search rules;
  rules = rw c.in_ok-push.ensures.items (All-push IsPlanned _ _ c.loop-value.invariant.rules c.in_ok-planned_item.ensures.rules);
  read =
      each_pushed (planned_item (path c.args.fields.now.place) c.args.lane (map (λ card. card.now) c.args.cards.now)) c.loop-value.value-index c.len.result
      c.args.values.now c.value-item.result c.loop-value.purchases.items c.push.new.self.items c.in_ok-planned_item.field-0 _
      c.loop-value-test.true c.value-item.is (omega (arith, c.len.ensures)) c.in_ok-push.ensures.items c.in_ok-planned_item.ensures.exact c.loop-value.invariant.read;
}
