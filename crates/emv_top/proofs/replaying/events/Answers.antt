use Rattle.std.proofs.Common.{rules}
use Rattle.std.proofs.lemmas.Result.{on_ok_weaker, on_err_weaker}
use Rattle.emv_top.proofs.replaying.events.Goals as goal

pub returns : goal.returns
returns g c = record {
  ok = on_ok_weaker c.audits.result
      (λ leads. λ first far. leads first
      (c.in_ok-settlement.ensures.passage.ok first (c.in_ok-rounds.ensures.passage.ok first (c.in_ok-schedule.ensures.ok first far))))
      c.audits.ensures.ok;
  err = on_err_weaker c.audits.result
      (λ halts. λ first far. halts first
      (c.in_ok-settlement.ensures.passage.ok first (c.in_ok-rounds.ensures.passage.ok first (c.in_ok-schedule.ensures.ok first far))))
      c.audits.ensures.err;
  told = c.audits.ensures.told;
  stop = search rules;
}
