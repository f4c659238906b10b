use Rattle.std.proofs.Common.{◌≡◌, ◌≤◌, ◌-◌, length, IsOk, slice_get}
use Rattle.ber_tlv.specs.Direct.{values_of}
use Rattle.ber_tlv.specs.Left.{items_behind, items_of}
use Rattle.ber_tlv.proofs.direct.nth_value.Given as goal

abbrev pub invariant-loop-item : goal.invariant-loop-item
invariant-loop-item l = record {
  within : l.cursor.place ≤ length l.cursor.bytes;
  same_bytes : l.cursor.bytes ≡ l.bytes;
  whole : IsOk (items_behind l.cursor.bytes l.cursor.place);
  same : slice_get (values_of l.tag.0 (items_behind l.cursor.bytes l.cursor.place)) l.before ≡ slice_get (values_of l.tag.0 (items_of l.bytes)) l.index;
}

abbrev pub decreases-loop-item : goal.decreases-loop-item
decreases-loop-item l = length l.cursor.bytes - l.cursor.place
