use Rattle.std.proofs.Common.{◌≡◌, ◌≤◌, length, ◌-◌}
use Rattle.std.specs.List.{list_any}
use Rattle.object_words.specs.Leading.{leading_behind, leading_items}
use Rattle.message_words.specs.Objects.{sent_before, is_repeated}
use Rattle.message_words.proofs.objects.are_repeated.Given as goal

abbrev pub invariant-loop-item : goal.invariant-loop-item
invariant-loop-item l =
    let test = is_repeated (sent_before l.known) in record {
      within : l.cursor.place ≤ length l.cursor.bytes;
      left : list_any test (leading_items l.objects) ≡ list_any test (leading_behind l.cursor.bytes l.cursor.place);
    }

abbrev pub decreases-loop-item : goal.decreases-loop-item
decreases-loop-item l = length l.cursor.bytes - l.cursor.place
