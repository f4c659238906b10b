use Rattle.std.proofs.Common.{◌≡◌, ◌≤◌, take}
use Rattle.std.specs.List.{sum_by}
use Rattle.txn_replay.proofs.lane.all_ended.Given as goal

abbrev pub invariant-loop-lane : goal.invariant-loop-lane
invariant-loop-lane l = record {
  so_far : l.all ≡ sum_by (λ lane. lane.ended) (take l.lane-index l.lanes);
  few : sum_by (λ lane. lane.ended) l.lanes ≤ 10000;
}
