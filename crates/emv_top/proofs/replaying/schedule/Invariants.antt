use Rattle.std.proofs.Common.{◌≡◌}
use Rattle.emv_top.specs.RunsSoFar.{RunGoesOn}
use Rattle.txn_replay.specs.Run.{Reached, Scheduled}
use Rattle.emv_top.proofs.replaying.schedule.Given as goal

abbrev pub invariant-loop-lane : goal.invariant-loop-lane
invariant-loop-lane g l = record {
  far : RunGoesOn l.fn.world l.world (g.K.Sink.held l.fn.sink) (g.K.Sink.held l.sink) (Reached l.scenario (Scheduled 0)) (Reached l.scenario (Scheduled l.lane-index));
  told : l.world.scenario ≡ l.scenario;
  calm : g.K.Sink.faults l.sink ≡ g.K.Sink.faults l.fn.sink;
}
