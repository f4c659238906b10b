-- What the bytes that were read are for a task: a scenario, or why they are refused.
use Rattle.std.specs.Prelude.{◌≡◌, ℕ, List, [], ◌∷◌, codes, Result, Ok, Err}
use Rattle.emv_top.specs.declared.words.Task.{Task}
use Rattle.emv_top.specs.declared.words.Task.TheVariants.{Read, Replay}
use Rattle.scenario_plan.specs.Plan.{ScenarioData}
use Rattle.scenario.specs.Scenario.{ReadsScenario}
use Rattle.scenario_fields.specs.Fault.{◌>>=◌}
use Rattle.scenario_fields.specs.declared.fault.ScenarioFault.{ScenarioFault}
use Rattle.scenario_fields.specs.declared.fault.ScenarioFault.TheVariants.{UnknownName}
use Rattle.scenario_lanes.specs.Plan.{LaneData}
use Rattle.scenario_lanes.specs.declared.plan.Planned.{Planned}

abbrev pub first_purchases : List LaneData → List Planned
first_purchases [] = []
first_purchases (lane ∷ lanes) = lane.purchases

-- a card is read in the first lane's first purchase
abbrev pub with_purchase : ScenarioData → List Planned → Result ScenarioData ScenarioFault
with_purchase s [] = Err (UnknownName (codes "lane[0].purchase[0]"))
with_purchase s (planned ∷ others) = Ok s

abbrev pub served : Task → ScenarioData → Result ScenarioData ScenarioFault
served Read s = with_purchase s (first_purchases s.lanes)
served Replay s = Ok s

-- the scenario of the bytes, or their fault, and behind it whether the task can be served
pub record IsInput (task : Task) (bytes : List ℕ) (outcome : Result ScenarioData ScenarioFault) : Type 0 where
  pub read : Result ScenarioData ScenarioFault
  pub reading : ReadsScenario bytes read
  pub serves : outcome ≡ (read >>= served task)
