use Rattle.std.proofs.Common.{◌≡◌, map}
use Rattle.std.specs.List.{range_with_len}
use Rattle.generated.specs.Lanes.{generated_lane}
use Rattle.generated.proofs.lane.lanes.Given as goal

abbrev pub invariant-loop-number : goal.invariant-loop-number
invariant-loop-number l = l.lanes.items ≡ map (generated_lane l.count) (range_with_len 0 l.number)
