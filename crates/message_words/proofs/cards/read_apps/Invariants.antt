use Rattle.std.proofs.Common.{length}
use Rattle.message_words.proofs.Apps.{IsReadTo}
use Rattle.message_words.proofs.cards.read_apps.Given as goal

abbrev pub invariant-loop-left : goal.invariant-loop-left
invariant-loop-left l = IsReadTo l.fn.text l.left l.apps.items

abbrev pub decreases-loop-left : goal.decreases-loop-left
decreases-loop-left l = length l.left
