use Rattle.std.proofs.Common.{length, ◌-◌, ◌≡◌, ◌≤◌}
use Rattle.ber_tlv.specs.Left.{items_behind, items_of, fault_of}
use Rattle.ber_tlv.proofs.cursor.first_fault.Given as goal

abbrev pub invariant-loop-fault : goal.invariant-loop-fault
invariant-loop-fault l = record {
  same_bytes : l.cursor.bytes ≡ l.bytes;
  within : l.cursor.place ≤ length l.bytes;
  same_fault : fault_of (items_behind l.cursor.bytes l.cursor.place) ≡ fault_of (items_of l.bytes);
}

abbrev pub decreases-loop-fault : goal.decreases-loop-fault
decreases-loop-fault l = length l.bytes - l.cursor.place
