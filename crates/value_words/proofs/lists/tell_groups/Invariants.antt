use Rattle.std.proofs.Common.{length}
use Rattle.report_lines.proofs.Telling.{Left}
use Rattle.value_words.specs.Lists.{groups_words}
use Rattle.value_words.proofs.lists.tell_groups.Given as goal

abbrev pub invariant-loop-left : goal.invariant-loop-left
invariant-loop-left l = Left l.fn.out l.out (groups_words l.groups) (groups_words l.left)

abbrev pub decreases-loop-left : goal.decreases-loop-left
decreases-loop-left l = length l.left
