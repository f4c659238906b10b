use Rattle.std.proofs.Common.{length}
use Rattle.trace_check.proofs.Left.{Far}
use Rattle.trace_check.proofs.compare.verdict_by.Given as goal

abbrev pub invariant-loop-verdict : goal.invariant-loop-verdict
invariant-loop-verdict l = Far l.fn.kernel l.kernel l.entries l.at l.rest

abbrev pub decreases-loop-verdict : goal.decreases-loop-verdict
decreases-loop-verdict l = length l.rest
