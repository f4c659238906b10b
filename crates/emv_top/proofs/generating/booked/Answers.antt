use Rattle.std.proofs.Common.{rules, ap, ◌∙◌, ℤ, ◌+ℤ◌, SFits, to_z}
use Rattle.std.proofs.lemmas.Int.{to_z-of_z}
use Rattle.std.specs.Int.{w128}
use Rattle.emv_top.specs.Generating.{capped_sum}
use Rattle.emv_top.proofs.Booked.{booked_more}
use Rattle.scenario_plan.specs.Plan.{ScenarioData}
use Rattle.emv_top.proofs.generating.booked.Goals as goal

pub loop-account-preserved : goal.loop-account-preserved
loop-account-preserved g c = record {
  so_far = λ w stands.
      let step =
      booked_more c.args.scenario.now w c.requires.rules.tables.own_pans c.args.world.now.scenario c.requires.told c.deref-account-items.result.now
      (c.deref-account-items.ensures.value ∙ ap (λ (s : ScenarioData). s.accounts) c.scenario.view_is) c.loop-account.account-index c.account-item.result
      c.loop-account-test.true c.account-item.is _ _ (c.loop-account.invariant.so_far w stands) (c.paid.ensures w stands) in
      let sum_fits : SFits w128 c.saturating_add-sum.result = search rules in
      let paid_fits : SFits w128 c.paid.result = search rules in
      to_z-of_z w128 c.saturating_add-sum.result sum_fits ∙ c.saturating_add-sum.ensures
      ∙ ap (λ (x : ℤ). capped_sum (to_z w128 c.loop-account.sum-bits +ℤ x)) (to_z-of_z w128 c.paid.result paid_fits) ∙ step;
}
