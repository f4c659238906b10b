use Rattle.std.proofs.Common.{ℕ, List, subst}
use Rattle.emv_top.specs.Checking.{Checks}
use Rattle.emv_top.proofs.Checked.{source_stays, was_checked}
use Rattle.emv_top.proofs.checking.check_source.Goals as goal

pub returns-in-Ok-clause-checks : goal.returns-in-Ok-clause-checks
returns-in-Ok-clause-checks g c =
    was_checked c.in-Ok.bytes.items _ _ c.check_bytes.result.status _ _ c.in-Ok.ensures.whole
    (subst (λ (b : List ℕ). Checks b (g.K.Sink.held c.args.sink.now) (g.K.Sink.held c.check_bytes.new.sink) c.check_bytes.result.status)
    c.as_slice.ensures.value c.check_bytes.ensures.checks.told)

pub returns-in-Ok-clause-counts : goal.returns-in-Ok-clause-counts
returns-in-Ok-clause-counts g c = record {
  source = source_stays _ _ _ _ _ c.check_bytes.result.status c.check_bytes.ensures.checks.told c.in-Ok.ensures.calm;
  sink = c.check_bytes.ensures.checks.count;
}
