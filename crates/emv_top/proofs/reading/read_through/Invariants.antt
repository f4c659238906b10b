use Rattle.std.proofs.Common.{◌≡◌}
use Rattle.emv_top.specs.RunsSoFar.{IsRunSoFar}
use Rattle.txn_replay.specs.Reading.{ReadReached}
use Rattle.txn_replay.specs.Seen.{WorldStands, turns_left}
use Rattle.emv_top.proofs.reading.read_through.Given as goal

abbrev pub invariant-loop-world : goal.invariant-loop-world
invariant-loop-world g l = record {
  far : IsRunSoFar (ReadReached l.scenario) (WorldStands l.world) (g.K.Sink.held l.fn.sink) (g.K.Sink.held l.sink);
  told : l.world.scenario ≡ l.scenario;
  calm : g.K.Sink.faults l.sink ≡ g.K.Sink.faults l.fn.sink;
}

abbrev pub decreases-loop-world : goal.decreases-loop-world
decreases-loop-world g l = turns_left l.world
