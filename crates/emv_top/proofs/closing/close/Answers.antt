use Rattle.std.proofs.Common.{ap, ◌∙◌}
use Rattle.std.proofs.lemmas.Result.{on_err_weaker}
use Rattle.emv_top.proofs.Closings.{close_more, close_front, close_end_front}
use Rattle.scenario_plan.specs.Plan.{ScenarioData}
use Rattle.emv_top.proofs.closing.close.Goals as goal

pub returns-in-Err-clause-front : goal.returns-in-Err-clause-front
returns-in-Err-clause-front g c = λ w stands.
    close_front c.args.scenario.now w c.args.world.now.scenario c.requires c.deref-account-items.result.now
    (c.deref-account-items.ensures.value ∙ ap (λ (s : ScenarioData). s.accounts) c.scenario.view_is) _ _ _ c.loop-account.account-index
    c.account-item.result c.loop-account-test.true c.account-item.is (c.loop-account.invariant.so_far w stands) (c.in-Err.ensures.front w stands)

pub loop-account-preserved : goal.loop-account-preserved
loop-account-preserved g c = record {
  so_far = λ w stands.
      close_more c.args.scenario.now w c.args.world.now.scenario c.requires c.deref-account-items.result.now
      (c.deref-account-items.ensures.value ∙ ap (λ (s : ScenarioData). s.accounts) c.scenario.view_is) _ _ _ c.loop-account.account-index
      c.account-item.result c.loop-account-test.true c.account-item.is (c.loop-account.invariant.so_far w stands) (c.in-Ok.ensures.all w stands);
  calm = c.in-Ok.ensures.stop ∙ c.loop-account.invariant.calm;
}

pub returns-clause-front : goal.returns-clause-front
returns-clause-front g c =
    on_err_weaker c.emit.result
    (λ stopped. λ w stands.
    close_end_front c.args.scenario.now w c.args.world.now.scenario c.requires c.deref-account-items.result.now
    (c.deref-account-items.ensures.value ∙ ap (λ (s : ScenarioData). s.accounts) c.scenario.view_is) _ _ _ c.loop-account.account-index
    c.loop-account-test.false c.ended.result (c.ended.ensures w stands) (c.loop-account.invariant.so_far w stands) stopped)
    c.emit.ensures.front
