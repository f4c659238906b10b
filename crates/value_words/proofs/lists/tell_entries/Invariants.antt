use Rattle.std.proofs.Common.{codes, length, map}
use Rattle.report_lines.proofs.Telling.{Left}
use Rattle.report_lines.specs.Pieces.{text, joined}
use Rattle.value_words.specs.Fields.{list_entries}
use Rattle.value_words.specs.Lists.{entries_words, entry_words}
use Rattle.value_words.proofs.lists.tell_entries.Given as goal

abbrev pub invariant-loop-tag : goal.invariant-loop-tag
invariant-loop-tag l = Left l.fn.out l.out (entries_words l.list) (joined l.told (text (codes " ")) (map entry_words (list_entries l.left).0))

abbrev pub decreases-loop-tag : goal.decreases-loop-tag
decreases-loop-tag l = length l.left
