use Rattle.std.proofs.Common.{◌≡◌, ◌-◌, ◌≤◌}
use Rattle.emv_top.specs.RunsSoFar.{RunGoesOn}
use Rattle.txn_replay.specs.Run.{Reached, Settling}
use Rattle.txn_replay.specs.Seen.{is_done}
use Rattle.emv_top.proofs.replaying.settlement.Given as goal

abbrev pub invariant-loop-number : goal.invariant-loop-number
invariant-loop-number g l = record {
  far : RunGoesOn l.fn.world l.world (g.K.Sink.held l.fn.sink) (g.K.Sink.held l.sink) (Reached l.scenario (Settling 0)) (Reached l.scenario (Settling l.number));
  told : l.world.scenario ≡ l.scenario;
  calm : g.K.Sink.faults l.sink ≡ g.K.Sink.faults l.fn.sink;
  done : is_done l.world ≡ is_done l.fn.world;
  few : l.number ≤ 30352;
}

abbrev pub decreases-loop-number : goal.decreases-loop-number
decreases-loop-number g l = 30352 - l.number
