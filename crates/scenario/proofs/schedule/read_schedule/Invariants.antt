use Rattle.std.proofs.Common.{◌≡◌, drop, length}
use Rattle.toml.specs.View.{items_view}
use Rattle.scenario_fields.specs.Fields.{each, with_front}
use Rattle.scenario_fields.specs.TablePaths.{path}
use Rattle.scenario.specs.Schedule.{schedule_item}
use Rattle.scenario.proofs.schedule.read_schedule.Given as goal

abbrev pub invariant-loop-value : goal.invariant-loop-value
invariant-loop-value l = record {
  count : length l.schedule.items ≡ l.value-index;
  read :
      with_front l.schedule.items (each (schedule_item (path l.document.place)) l.value-index (items_view (drop l.value-index l.values)))
      ≡ each (schedule_item (path l.document.place)) 0 (items_view l.values);
}
