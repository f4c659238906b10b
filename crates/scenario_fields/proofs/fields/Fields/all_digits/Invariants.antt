use Rattle.std.specs.List.{All}
use Rattle.std.proofs.Common.{◌≡◌, ◌≤◌, drop, length}
use Rattle.toml.specs.View.{items_view}
use Rattle.scenario_fields.specs.Fields.{each, digits_item, with_front}
use Rattle.scenario_fields.specs.TablePaths.{path}
use Rattle.scenario_fields.proofs.fields.Fields.all_digits.Given as goal

abbrev pub invariant-loop-value : goal.invariant-loop-value
invariant-loop-value l = record {
  count : length l.all.items ≡ l.value-index;
  lengths : All (λ ds. (l.least ≤ length ds) × (length ds ≤ l.most)) l.all.items;
  read :
      with_front l.all.items (each (digits_item (path l.self.place) l.key l.least l.most) l.value-index (items_view (drop l.value-index l.values)))
      ≡ each (digits_item (path l.self.place) l.key l.least l.most) 0 (items_view l.values);
}
