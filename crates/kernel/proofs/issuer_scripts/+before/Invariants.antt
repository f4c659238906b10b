use Rattle.std.proofs.Common.{◌+◌, ◌-◌, ◌*◌}
use Rattle.kernel.proofs.issuer_scripts.+before.Given as goal

abbrev pub decreases-run_before : goal.decreases-run_before
decreases-run_before l = 2 * (8 - l.index) + 1

abbrev pub decreases-before_next : goal.decreases-before_next
decreases-before_next l = 2 * (8 - l.index) + 2
