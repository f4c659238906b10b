use Rattle.std.proofs.Common.{◌≡◌, drop, length}
use Rattle.toml.specs.View.{items_view}
use Rattle.scenario_fields.specs.Fields.{each, with_front}
use Rattle.scenario_fields.specs.TablePaths.{path}
use Rattle.trace_check.specs.Document.{entry_item}
use Rattle.trace_check.proofs.read.read_entries.Given as goal

abbrev pub invariant-loop-value : goal.invariant-loop-value
invariant-loop-value l = record {
  count : length l.entries.items ≡ l.value-index;
  read :
      with_front l.entries.items (each (entry_item (path l.document.place)) l.value-index (items_view (drop l.value-index l.values)))
      ≡ each (entry_item (path l.document.place)) 0 (items_view l.values);
}
