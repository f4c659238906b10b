use Rattle.std.proofs.Common.{◌≡◌}
use Rattle.std.specs.List.{All}
use Rattle.std.specs.Vec.{vec_len}
use Rattle.txn_replay.specs.Seen.{IsNewLane}
use Rattle.txn_replay.proofs.lane.new_lanes.Given as goal

abbrev pub invariant-loop : goal.invariant-loop
invariant-loop l = record {
  new : All IsNewLane l.lanes.items;
  count : vec_len l.lanes ≡ l.counter;
}
