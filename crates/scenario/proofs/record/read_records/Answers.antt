use Rattle.std.proofs.Common.{rules, subst, arith, List}
use Rattle.std.proofs.lemmas.Grind.{common_steps}
use Rattle.card_files.specs.Views.{RecordData}
use Rattle.scenario.proofs.CardParts.{records_apart}
use Rattle.scenario.specs.CardRules.{IsNewRecord}
use Rattle.scenario.proofs.record.read_records.Goals as goal

pub loop-value-preserved : goal.loop-value-preserved
loop-value-preserved c = record {
  apart =
      records_apart c.loop-value.records.items c.push.new.self.items c.in_ok-record.record c.in_ok-push.ensures.items c.loop-value.invariant.apart
      (subst (λ (records : List RecordData). IsNewRecord records c.in_ok-record.record) c.as_slice.ensures.value c.in_ok-record.ensures.new);
  count = search rules;
  read = grind (arith, common_steps);
}
