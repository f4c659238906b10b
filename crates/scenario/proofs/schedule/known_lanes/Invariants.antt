use Rattle.std.proofs.Common.{◌≡◌, ◌<◌, take, drop}
use Rattle.std.specs.List.{All}
use Rattle.scenario.specs.Schedule.{known_lanes}
use Rattle.scenario.proofs.schedule.known_lanes.Given as goal

abbrev pub invariant-loop-index : goal.invariant-loop-index
invariant-loop-index l = record {
  rest : known_lanes l.lanes l.index (drop l.index l.schedule) ≡ known_lanes l.lanes 0 l.schedule;
  known : All (λ number. number < l.lanes) (take l.index l.schedule);
}
