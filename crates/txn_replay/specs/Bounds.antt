-- How much a run comes to, by its scenario (this project's own).
use Rattle.std.specs.Prelude.{◌≡◌, ℕ, ◌+◌, ◌*◌, ◌≤◌, Bool, List, length, slice_get, Option, Some, None}
use Rattle.report_text.specs.declared.line.Line.{Line}
use Rattle.scenario_plan.specs.Plan.{ScenarioData, IsScenario}
use Rattle.scenario_lanes.specs.Plan.{LaneData, purchase_count}
use Rattle.txn_replay.specs.Run.{RunPlace, Reached, ended_count}
use Rattle.txn_replay.specs.Steps.{settlements, checks}
use Rattle.txn_replay.specs.World.{LaneRow, World}

abbrev pub purchases_in : Option LaneData → ℕ
purchases_in None = 0
purchases_in (Some lane) = length lane.purchases

-- no more messages are captured, and no more approvals logged, than purchases have ended; and no more have ended than
-- the lane has
pub record IsFewIn (s : ScenarioData) (l : ℕ) (row : LaneRow) : Type 0 where
  pub captures : length row.captures ≤ length row.ended
  pub log : length row.log ≤ length row.ended
  pub ended : length row.ended ≤ purchases_in (slice_get s.lanes l)

pub record IsFew (s : ScenarioData) (w : World) : Type 0 where
  pub lanes : (l : ℕ) (row : LaneRow) → slice_get w.lanes l ≡ Some row → IsFewIn s l row
  pub ended : ended_count w ≤ purchase_count s.lanes
  -- the captures of each lane, or the opening of its store and what it may have found
  pub settlements : 1 ≤ s.copies → length (settlements s w) ≤ s.copies * purchase_count s.lanes + (1 + s.copies * 7) * length s.lanes

-- so in every world that a run comes to
abbrev pub WorldsAreFew : Type 0
WorldsAreFew =
    (s : ScenarioData) (place : RunPlace) (n : ℕ) (choices : List Bool) (lines : List Line) (w : World)
    → Reached s place n choices lines w → IsFew s w

-- at most 30,352 steps of the settlement: three copies of 10,000 messages, and for each of 16 lanes an opening and three
-- copies of seven
abbrev pub SettlementsAreFew : Type 0
SettlementsAreFew =
    (s : ScenarioData) (place : RunPlace) (n : ℕ) (choices : List Bool) (lines : List Line) (w : World)
    → IsScenario s → Reached s place n choices lines w → length (settlements s w) ≤ 30352

-- and at most 832 steps of an audit: 64 power-ups, and three commands for each of four applications of a card
abbrev pub ChecksAreFew : Type 0
ChecksAreFew = (s : ScenarioData) → IsScenario s → length (checks s) ≤ 832
