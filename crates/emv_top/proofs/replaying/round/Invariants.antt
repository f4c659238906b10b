use Rattle.std.proofs.Common.{◌≡◌, ◌⊎◌, ℕ, ◌-◌, ◌<◌, ◌≤◌, false, length}
use Rattle.emv_top.specs.RunsSoFar.{RunGoesOn}
use Rattle.txn_replay.specs.Run.{Reached, Round, all_over}
use Rattle.txn_replay.specs.Sound.{IsIdle}
use Rattle.txn_replay.specs.World.{World}
use Rattle.txn_replay.specs.Seen.{WorldStands, turns_left}
use Rattle.emv_top.proofs.replaying.round.Given as goal

abbrev pub invariant-loop-lane : goal.invariant-loop-lane
invariant-loop-lane g l = record {
  far : RunGoesOn l.fn.world l.world (g.K.Sink.held l.fn.sink) (g.K.Sink.held l.sink) (Reached l.scenario (Round 0)) (Reached l.scenario (Round l.lane));
  told : l.world.scenario ≡ l.scenario;
  calm : g.K.Sink.faults l.sink ≡ g.K.Sink.faults l.fn.sink;
  within : l.lane ≤ length l.scenario.lanes;
  busy : l.lane ≡ 0 → (w : World) → WorldStands l.world w → all_over l.scenario w ≡ false;
  onward : (turns_left l.world < turns_left l.fn.world)
      ⊎ ((l.world ≡ l.fn.world) × ((w : World) → WorldStands l.fn.world w → (k : ℕ) → k < l.lane → IsIdle l.scenario w k));
}

abbrev pub decreases-loop-lane : goal.decreases-loop-lane
decreases-loop-lane g l = length l.scenario.lanes - l.lane
