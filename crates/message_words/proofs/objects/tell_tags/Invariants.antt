use Rattle.std.proofs.Common.{◌≤◌, length, ◌-◌}
use Rattle.std.specs.List.{flat_map}
use Rattle.report_lines.proofs.Telling.{Left}
use Rattle.object_words.specs.Leading.{leading_behind, leading_items}
use Rattle.message_words.specs.Objects.{sent_before, if_repeated}
use Rattle.message_words.proofs.objects.tell_tags.Given as goal

abbrev pub invariant-loop-item : goal.invariant-loop-item
invariant-loop-item l =
    let words = if_repeated (sent_before l.known) in record {
      within : l.cursor.place ≤ length l.cursor.bytes;
      left : Left l.fn.out l.out (flat_map words (leading_items l.objects)) (flat_map words (leading_behind l.cursor.bytes l.cursor.place));
    }

abbrev pub decreases-loop-item : goal.decreases-loop-item
decreases-loop-item l = length l.cursor.bytes - l.cursor.place
