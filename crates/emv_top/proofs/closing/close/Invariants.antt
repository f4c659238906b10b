use Rattle.std.proofs.Common.{◌≡◌, drop}
use Rattle.std.specs.List.{flat_map}
use Rattle.emv_ports.specs.Growth.{IsSoFar}
use Rattle.emv_top.specs.Texts.{text_of_lines}
use Rattle.txn_replay.specs.Run.{account_lines}
use Rattle.txn_replay.specs.World.{World}
use Rattle.txn_replay.specs.Seen.{WorldStands}
use Rattle.emv_top.proofs.closing.close.Given as goal

abbrev pub invariant-loop-account : goal.invariant-loop-account
invariant-loop-account g l = record {
  so_far : (w : World) → WorldStands l.world w → IsSoFar (g.K.Sink.held l.fn.sink) (g.K.Sink.held l.sink)
      (text_of_lines (flat_map (account_lines l.scenario w) (drop l.account-index l.scenario.accounts))) (text_of_lines (flat_map (account_lines l.scenario w) l.scenario.accounts));
  calm : g.K.Sink.faults l.sink ≡ g.K.Sink.faults l.fn.sink;
}
