use Rattle.std.proofs.Common.{◌≡◌, ◌≢◌, [], drop, length}
use Rattle.std.specs.List.{All, AllPairs}
use Rattle.card_files.specs.ImageRules.{KeepsRules}
use Rattle.toml.specs.View.{items_view}
use Rattle.scenario_fields.specs.Fields.{with_front}
use Rattle.scenario.specs.Cards.{apps_from}
use Rattle.scenario.proofs.card.read_apps.Given as goal

abbrev pub invariant-loop-value : goal.invariant-loop-value
invariant-loop-value l = record {
  rules : All KeepsRules l.apps.items;
  names : AllPairs (λ a b. a.name ≢ b.name) l.apps.items;
  count : length l.apps.items ≡ l.value-index;
  read :
      with_front l.apps.items (apps_from l.card l.value-index l.keys l.apps.items (items_view (drop l.value-index l.values)))
      ≡ apps_from l.card 0 l.keys [] (items_view l.values);
}
