use Rattle.std.proofs.Common.{length}
use Rattle.ending_words.proofs.Scripts.{ScriptsLeft}
use Rattle.ending_words.proofs.ending.tell_scripts.Given as goal

abbrev pub invariant-loop-left : goal.invariant-loop-left
invariant-loop-left l = ScriptsLeft l.fn.out l.out l.fn.scripts l.left

abbrev pub decreases-loop-left : goal.decreases-loop-left
decreases-loop-left l = length l.left
