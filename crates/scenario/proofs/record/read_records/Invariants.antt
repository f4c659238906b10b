use Rattle.std.proofs.Common.{◌≡◌, [], drop, length}
use Rattle.std.specs.Prelude.{IsTrue}
use Rattle.card_files.specs.AppRules.{are_apart}
use Rattle.toml.specs.View.{items_view}
use Rattle.scenario_fields.specs.Fields.{with_front}
use Rattle.scenario.specs.Cards.{records_from}
use Rattle.scenario.proofs.record.read_records.Given as goal

abbrev pub invariant-loop-value : goal.invariant-loop-value
invariant-loop-value l = record {
  apart : IsTrue (are_apart l.records.items);
  count : length l.records.items ≡ l.value-index;
  read :
      with_front l.records.items (records_from l.card l.app l.value-index l.records.items (items_view (drop l.value-index l.values)))
      ≡ records_from l.card l.app 0 [] (items_view l.values);
}
