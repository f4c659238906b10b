use Rattle.std.proofs.Common.{◌≡◌}
use Rattle.emv_top.specs.RunsSoFar.{RunGoesOn}
use Rattle.txn_replay.specs.Run.{Reached, Round}
use Rattle.txn_replay.specs.Seen.{turns_left}
use Rattle.emv_top.proofs.replaying.rounds.Given as goal

abbrev pub invariant-loop-world : goal.invariant-loop-world
invariant-loop-world g l = record {
  far : RunGoesOn l.fn.world l.world (g.K.Sink.held l.fn.sink) (g.K.Sink.held l.sink) (Reached l.scenario (Round 0)) (Reached l.scenario (Round 0));
  told : l.world.scenario ≡ l.scenario;
  calm : g.K.Sink.faults l.sink ≡ g.K.Sink.faults l.fn.sink;
}

abbrev pub decreases-loop-world : goal.decreases-loop-world
decreases-loop-world g l = turns_left l.world
