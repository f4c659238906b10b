use Rattle.std.proofs.Common.{length, ◌-◌}
use Rattle.ber_tlv.specs.Items.{Zeros}
use Rattle.ber_tlv.proofs.cursor.skip_zeros.Given as goal

abbrev pub invariant-loop-start : goal.invariant-loop-start
invariant-loop-start l = Zeros l.bytes l.place l.start

abbrev pub decreases-loop-start : goal.decreases-loop-start
decreases-loop-start l = length l.bytes - l.start
