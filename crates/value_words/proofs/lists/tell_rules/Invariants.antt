use Rattle.std.proofs.Common.{length}
use Rattle.report_lines.proofs.Telling.{Left}
use Rattle.value_words.specs.Lists.{rules_words}
use Rattle.value_words.proofs.lists.tell_rules.Given as goal

abbrev pub invariant-loop-left : goal.invariant-loop-left
invariant-loop-left l = Left l.fn.out l.out (rules_words l.level l.rules) (rules_words l.level l.left)

abbrev pub decreases-loop-left : goal.decreases-loop-left
decreases-loop-left l = length l.left
