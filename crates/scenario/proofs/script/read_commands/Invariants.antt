use Rattle.std.proofs.Common.{◌≡◌, drop, length}
use Rattle.std.specs.List.{All}
use Rattle.script_words.specs.Spelling.{IsWord}
use Rattle.toml.specs.View.{items_view}
use Rattle.scenario_fields.specs.Fields.{each, with_front}
use Rattle.scenario_fields.specs.TablePaths.{path}
use Rattle.scenario.specs.Accounts.{command_item}
use Rattle.scenario.proofs.script.read_commands.Given as goal

abbrev pub invariant-loop-value : goal.invariant-loop-value
invariant-loop-value l = record {
  count : length l.commands.items ≡ l.value-index;
  rules : All (λ order. IsWord order.word) l.commands.items;
  read :
      with_front l.commands.items (each (command_item (path l.fields.place)) l.value-index (items_view (drop l.value-index l.values)))
      ≡ each (command_item (path l.fields.place)) 0 (items_view l.values);
}
