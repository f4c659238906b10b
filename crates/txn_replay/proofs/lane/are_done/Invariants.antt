use Rattle.std.proofs.Common.{◌≡◌, true, length}
use Rattle.txn_replay.specs.Seen.{done_below}
use Rattle.txn_replay.proofs.lane.are_done.Given as goal

abbrev pub invariant-loop-index : goal.invariant-loop-index
invariant-loop-index l = record {
  before : done_below l.terminals l.lanes l.index ≡ true;
  same : length l.lanes ≡ length l.terminals;
}
