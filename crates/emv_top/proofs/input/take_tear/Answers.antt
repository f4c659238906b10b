use Rattle.std.proofs.Common.{length, ap, subst, sym, ◌∙◌}
use Rattle.emv_top.specs.Input.{first_purchases}
use Rattle.emv_top.proofs.Inputs.{untorn_scenario, same_first}
use Rattle.scenario_plan.specs.Plan.{ScenarioData, IsScenario}
use Rattle.emv_top.proofs.input.take_tear.Goals as goal

pub returns-clause-rules : goal.returns-clause-rules
returns-clause-rules c = subst IsScenario (sym c.drop_tear.ensures) (untorn_scenario c.args.scenario.now c.requires)

pub returns-clause-same : goal.returns-clause-same
returns-clause-same c = ap (λ (s : ScenarioData). length (first_purchases s.lanes)) c.drop_tear.ensures ∙ same_first c.args.scenario.now.lanes
