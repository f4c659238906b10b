use Rattle.std.proofs.Common.{rules, arith}
use Rattle.std.proofs.lemmas.List.Elements.{All-push}
use Rattle.std.proofs.lemmas.Result.{err_from_is_err_and}
use Rattle.issuer_host.specs.Account.{IsAccount}
use Rattle.scenario_fields.proofs.Loops.{Fails-then}
use Rattle.scenario_fields.specs.TablePaths.{path}
use Rattle.scenario.proofs.AccountLoop.{accounts_pushed, accounts_stopped}
use Rattle.scenario.proofs.account.read_accounts.Goals as goal

pub returns-in_err-account-clause-exact : goal.returns-in_err-account-clause-exact
returns-in_err-account-clause-exact c =
    let failed = err_from_is_err_and c.from_residual.result c.from_residual.ensures.1 in
    rw (failed.1, failed.2)
    (Fails-then c.in_err-account.field-0.0 _ _
    (λ e is. accounts_stopped (path c.args.document.now.place) c.loop-value.value-index c.len.result c.args.values.now c.value-item.result c.loop-value.accounts.items _ e
    c.loop-value-test.true c.value-item.is (omega (arith, c.len.ensures)) c.loop-value.invariant.read (rw (← c.as_slice.ensures.value) is))
    c.in_err-account.ensures.exact)

pub loop-value-preserved : goal.loop-value-preserved
loop-value-preserved c = record {
  count = search rules;
  rules = rw c.in_ok-push.ensures.items (All-push IsAccount _ _ c.loop-value.invariant.rules c.in_ok-account.ensures.rules);
  read =
      accounts_pushed (path c.args.document.now.place) c.loop-value.value-index c.len.result c.args.values.now c.value-item.result c.loop-value.accounts.items
      c.push.new.self.items c.in_ok-account.account _
      c.loop-value-test.true c.value-item.is (omega (arith, c.len.ensures)) c.in_ok-push.ensures.items (rw (← c.as_slice.ensures.value) c.in_ok-account.ensures.exact)
      c.loop-value.invariant.read;
}
