use Rattle.std.proofs.Common.{◌≡◌, ◌≤◌, drop, length, map}
use Rattle.std.specs.List.{All}
use Rattle.toml.specs.View.{items_view}
use Rattle.scenario_fields.specs.Fields.{with_front}
use Rattle.scenario_fields.specs.TablePaths.{path}
use Rattle.scenario_lanes.specs.Lanes.{lanes_from}
use Rattle.scenario_lanes.specs.Plan.{IsLane, HaveRoom, purchase_count}
use Rattle.scenario_lanes.proofs.lane.read_lanes.Given as goal

abbrev pub invariant-loop-value : goal.invariant-loop-value
invariant-loop-value l = record {
  count : length l.lanes.items ≡ l.value-index;
  sum : l.earlier ≡ purchase_count l.lanes.items;
  room : l.earlier ≤ 10000;
  rules : All IsLane l.lanes.items;
  rooms : HaveRoom (length l.cards) l.lanes.items;
  pins : All (λ lane. lane.settings.pin_key ≡ l.pin_key) l.lanes.items;
  read :
      with_front l.lanes.items (lanes_from (path l.document.place) l.value-index l.earlier (map (λ name. name.now) l.cards) l.pin_key (items_view (drop l.value-index l.values)))
      ≡ lanes_from (path l.document.place) 0 0 (map (λ name. name.now) l.cards) l.pin_key (items_view l.values);
}
