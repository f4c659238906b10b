use Rattle.std.proofs.Common.{◌≡◌, ◌≤◌, length, ◌-◌}
use Rattle.ber_tlv.specs.Walked.{walk_behind, walk_fault}
use Rattle.ber_tlv.proofs.walk.+fault_behind.Given as goal

abbrev pub decreases-fault_behind : goal.decreases-fault_behind
decreases-fault_behind l = length l.cursor.now.bytes - l.cursor.now.place

abbrev pub invariant-loop-item : goal.invariant-loop-item
invariant-loop-item l = record {
  same_bytes : l.cursor.bytes ≡ l.fn.cursor.bytes;
  onward : l.fn.cursor.place ≤ l.cursor.place;
  within : l.cursor.place ≤ length l.cursor.bytes;
  same_fault : walk_fault (walk_behind l.cursor.bytes l.cursor.place) ≡ walk_fault (walk_behind l.fn.cursor.bytes l.fn.cursor.place);
}

abbrev pub decreases-loop-item : goal.decreases-loop-item
decreases-loop-item l = length l.cursor.bytes - l.cursor.place
