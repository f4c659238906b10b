use Rattle.std.proofs.Common.{◌≡◌, drop, length}
use Rattle.std.specs.List.{All}
use Rattle.emv_dict.specs.Settings.{IsAidRow}
use Rattle.toml.specs.View.{items_view}
use Rattle.scenario_fields.specs.Fields.{each, with_front}
use Rattle.scenario_fields.specs.TablePaths.{path}
use Rattle.scenario_lanes.specs.Lanes.{aid_item}
use Rattle.scenario_lanes.proofs.lane.read_aids.Given as goal

abbrev pub invariant-loop-value : goal.invariant-loop-value
invariant-loop-value l = record {
  count : length l.rows.items ≡ l.value-index;
  rules : All IsAidRow l.rows.items;
  read :
      with_front l.rows.items (each (aid_item (path l.fields.place) l.lane) l.value-index (items_view (drop l.value-index l.values)))
      ≡ each (aid_item (path l.fields.place) l.lane) 0 (items_view l.values);
}
