use Rattle.std.proofs.Common.{◌+◌, ◌-◌, ◌*◌}
use Rattle.kernel.proofs.issuer_scripts.+behind.Given as goal

abbrev pub decreases-run_behind : goal.decreases-run_behind
decreases-run_behind l = 2 * (8 - l.index) + 1

abbrev pub decreases-behind_next : goal.decreases-behind_next
decreases-behind_next l = 2 * (8 - l.index) + 2
