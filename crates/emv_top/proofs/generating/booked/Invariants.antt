use Rattle.std.proofs.Common.{◌≡◌}
use Rattle.emv_top.specs.Generating.{capped_sum}
use Rattle.emv_top.proofs.Booked.{upto}
use Rattle.txn_replay.specs.World.{World}
use Rattle.txn_replay.specs.Seen.{WorldStands}
use Rattle.emv_top.proofs.generating.booked.Given as goal

abbrev pub invariant-loop-account : goal.invariant-loop-account
invariant-loop-account g l = record { so_far : (w : World) → WorldStands l.world w → l.sum ≡ capped_sum (upto l.scenario w l.account-index) }
