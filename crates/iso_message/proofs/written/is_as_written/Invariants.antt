use Rattle.std.proofs.Common.{length, ◌-◌, ◌≡◌, ◌≤◌, []}
use Rattle.ber_tlv.specs.Left.{items_behind, items_of}
use Rattle.iso_message.proofs.Rewritten.{rewritten}
use Rattle.iso_message.proofs.written.is_as_written.Given as goal

abbrev pub invariant-loop-item : goal.invariant-loop-item
invariant-loop-item l = record {
  same_bytes : l.cursor.bytes ≡ l.content;
  within : l.cursor.place ≤ length l.content;
  short : length l.again.items ≤ l.cursor.place;
  same : rewritten l.again.items (items_behind l.cursor.bytes l.cursor.place) ≡ rewritten [] (items_of l.content);
}

abbrev pub decreases-loop-item : goal.decreases-loop-item
decreases-loop-item l = length l.content - l.cursor.place
