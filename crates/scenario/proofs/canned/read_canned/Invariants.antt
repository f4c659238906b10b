use Rattle.std.proofs.Common.{◌≡◌, ◌≤◌, drop, length, map}
use Rattle.std.specs.List.{All}
use Rattle.toml.specs.View.{items_view}
use Rattle.scenario_fields.specs.Fields.{each, with_front}
use Rattle.scenario_fields.specs.TablePaths.{path}
use Rattle.scenario.specs.Cards.{canned_item}
use Rattle.scenario.proofs.canned.read_canned.Given as goal

abbrev pub invariant-loop-value : goal.invariant-loop-value
invariant-loop-value l = record {
  count : length l.answers.items ≡ l.value-index;
  short : All (λ answer. length answer.items ≤ 258) l.answers.items;
  read :
      with_front (map (λ answer. answer.items) l.answers.items) (each (canned_item (path l.card.place)) l.value-index (items_view (drop l.value-index l.values)))
      ≡ each (canned_item (path l.card.place)) 0 (items_view l.values);
}
