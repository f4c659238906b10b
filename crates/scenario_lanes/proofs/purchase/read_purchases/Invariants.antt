use Rattle.std.proofs.Common.{◌≡◌, drop, length, map}
use Rattle.std.specs.List.{All}
use Rattle.toml.specs.View.{items_view}
use Rattle.scenario_fields.specs.Fields.{each, with_front}
use Rattle.scenario_fields.specs.TablePaths.{path}
use Rattle.scenario_lanes.specs.Plan.{IsPlanned}
use Rattle.scenario_lanes.specs.Purchases.{planned_item}
use Rattle.scenario_lanes.proofs.purchase.read_purchases.Given as goal

abbrev pub invariant-loop-value : goal.invariant-loop-value
invariant-loop-value l = record {
  count : length l.purchases.items ≡ l.value-index;
  rules : All IsPlanned l.purchases.items;
  read :
      with_front l.purchases.items (each (planned_item (path l.fields.place) l.lane (map (λ card. card.now) l.cards)) l.value-index (items_view (drop l.value-index l.values)))
      ≡ each (planned_item (path l.fields.place) l.lane (map (λ card. card.now) l.cards)) 0 (items_view l.values);
}
