use Rattle.std.proofs.Common.{◌-◌}
use Rattle.kernel.proofs.issuer_scripts.+fail_behind.Given as goal

abbrev pub decreases-fail_behind : goal.decreases-fail_behind
decreases-fail_behind l = 8 - l.index
