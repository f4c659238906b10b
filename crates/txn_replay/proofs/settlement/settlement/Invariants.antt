use Rattle.std.proofs.Common.{◌≡◌, ◌≤◌, List, drop, length, slice_get}
use Rattle.txn_replay.specs.Settling.{LanesKeep}
use Rattle.txn_replay.specs.Steps.{settlements_from}
use Rattle.txn_replay.specs.World.{LaneRow}
use Rattle.txn_replay.proofs.settlement.settlement.Given as goal

abbrev pub invariant-loop-index : goal.invariant-loop-index
invariant-loop-index l = record {
  same : (rows : List LaneRow) → LanesKeep l.lanes rows
      → slice_get (settlements_from l.scenario l.index (drop l.index rows)) l.left ≡ slice_get (settlements_from l.scenario 0 rows) l.fn.number;
  copies : l.copies ≡ l.scenario.copies;
  within : l.index ≤ length l.lanes;
}
