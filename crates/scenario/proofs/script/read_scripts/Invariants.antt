use Rattle.std.proofs.Common.{◌≡◌, drop, length}
use Rattle.std.specs.List.{All}
use Rattle.script_words.specs.Script.{IsScript}
use Rattle.toml.specs.View.{items_view}
use Rattle.scenario_fields.specs.Fields.{each, with_front}
use Rattle.scenario_fields.specs.TablePaths.{path}
use Rattle.scenario.specs.Accounts.{script_item}
use Rattle.scenario.proofs.script.read_scripts.Given as goal

abbrev pub invariant-loop-value : goal.invariant-loop-value
invariant-loop-value l = record {
  count : length l.scripts.items ≡ l.value-index;
  rules : All IsScript l.scripts.items;
  read :
      with_front l.scripts.items (each (script_item (path l.fields.place) l.account) l.value-index (items_view (drop l.value-index l.values)))
      ≡ each (script_item (path l.fields.place) l.account) 0 (items_view l.values);
}
