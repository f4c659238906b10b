use Rattle.std.proofs.Common.{◌≡◌, ◌≤◌, length, ◌-◌}
use Rattle.object_words.specs.Leading.{leading_behind}
use Rattle.exchange_words.specs.Learned.{found_deep, value_found_in}
use Rattle.exchange_words.proofs.Deep.{found_within}
use Rattle.exchange_words.proofs.learn.+find_deep.Given as goal

abbrev pub decreases-find_deep : goal.decreases-find_deep
decreases-find_deep l = l.more

abbrev pub invariant-loop-item : goal.invariant-loop-item
invariant-loop-item l = record {
  within : l.cursor.place ≤ length l.cursor.bytes;
  left : found_deep l.more l.tag.0 l.bytes ≡ value_found_in l.tag.0 (found_within l.more l.tag.0) (leading_behind l.cursor.bytes l.cursor.place);
}

abbrev pub decreases-loop-item : goal.decreases-loop-item
decreases-loop-item l = length l.cursor.bytes - l.cursor.place
