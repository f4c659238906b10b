use Rattle.std.proofs.Common.{length}
use Rattle.scenario.proofs.script.+fit.Given as goal

abbrev pub decreases-fit : goal.decreases-fit
decreases-fit l = length l.scripts.now
