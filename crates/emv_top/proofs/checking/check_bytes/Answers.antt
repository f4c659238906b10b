use Rattle.std.proofs.Common.{subst}
use Rattle.emv_top.specs.Checking.{TellsVerdict}
use Rattle.trace_check.specs.declared.compare.Verdict.{Verdict}
use Rattle.emv_top.proofs.Checked.{checked, unchecked}
use Rattle.emv_top.proofs.checking.check_bytes.Goals as goal

pub returns-in-Ok-clause-checks : goal.returns-in-Ok-clause-checks
returns-in-Ok-clause-checks g c = record {
  told = checked c.args.bytes.now _ _ c.in-Ok.trace c.tell_verdict.result.status c.in-Ok.ensures.exact
      (subst (λ (verdict : Verdict). TellsVerdict verdict (g.K.Sink.held c.args.sink.now) (g.K.Sink.held c.tell_verdict.new.sink) c.tell_verdict.result.status)
      c.check.ensures c.tell_verdict.ensures.tells.told);
  count = c.tell_verdict.ensures.tells.count;
}

pub returns-in-Err-clause-checks : goal.returns-in-Err-clause-checks
returns-in-Err-clause-checks g c = record {
  told = unchecked c.args.bytes.now _ _ c.in-Err.fault _ _ c.refuse.result.status c.in-Err.ensures.exact c.refuse.ensures.refuses.told;
  count = c.refuse.ensures.refuses.count;
}
