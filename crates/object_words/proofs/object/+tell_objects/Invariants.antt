use Rattle.std.proofs.Common.{◌≤◌, length, ◌-◌}
use Rattle.std.specs.List.{flat_map}
use Rattle.report_lines.proofs.Telling.{Left}
use Rattle.object_words.specs.Leading.{leading_behind}
use Rattle.object_words.specs.Objects.{objects_words, told_item}
use Rattle.object_words.proofs.object.+tell_objects.Given as goal

abbrev pub decreases-tell_objects : goal.decreases-tell_objects
decreases-tell_objects l = l.more

abbrev pub invariant-loop-item : goal.invariant-loop-item
invariant-loop-item l = record {
  within : l.cursor.place ≤ length l.cursor.bytes;
  left : Left l.fn.out l.out (objects_words l.more l.style l.bytes) (flat_map (told_item l.more l.style) (leading_behind l.cursor.bytes l.cursor.place));
}

abbrev pub decreases-loop-item : goal.decreases-loop-item
decreases-loop-item l = length l.cursor.bytes - l.cursor.place
