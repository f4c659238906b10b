use Rattle.std.proofs.Common.{length}
use Rattle.env_map.specs.Entries.{entries_after}
use Rattle.emv_top.proofs.ReadTold.{FitsSoFar}
use Rattle.emv_top.proofs.reading.values_fit.Given as goal

abbrev pub invariant-loop-tag : goal.invariant-loop-tag
invariant-loop-tag l = FitsSoFar (entries_after l.last l.env) l.env

abbrev pub decreases-loop-tag : goal.decreases-loop-tag
decreases-loop-tag l = length (entries_after l.last l.env)
