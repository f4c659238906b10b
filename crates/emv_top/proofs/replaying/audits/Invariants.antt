use Rattle.std.proofs.Common.{◌≡◌, ◌-◌, ◌≤◌, true}
use Rattle.emv_top.specs.RunsSoFar.{RunGoesOn}
use Rattle.txn_replay.specs.Run.{Reached, Auditing}
use Rattle.txn_replay.specs.Seen.{is_done, IsNext}
use Rattle.emv_top.proofs.replaying.audits.Given as goal

abbrev pub invariant-loop-number : goal.invariant-loop-number
invariant-loop-number g l = record {
  far : RunGoesOn l.fn.world l.world (g.K.Sink.held l.fn.sink) (g.K.Sink.held l.sink) (Reached l.scenario (Auditing 0)) (Reached l.scenario (Auditing l.number));
  told : l.world.scenario ≡ l.scenario;
  calm : g.K.Sink.faults l.sink ≡ g.K.Sink.faults l.fn.sink;
  done : is_done l.world ≡ true;
  next : IsNext l.world l.number;
  few : l.number ≤ 832;
}

abbrev pub decreases-loop-number : goal.decreases-loop-number
decreases-loop-number g l = 832 - l.number
