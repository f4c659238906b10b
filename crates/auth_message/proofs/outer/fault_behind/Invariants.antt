use Rattle.std.proofs.Common.{length, ◌-◌, ◌≡◌, ◌≤◌}
use Rattle.ber_tlv.specs.Left.{items_behind, fault_of}
use Rattle.auth_message.proofs.outer.fault_behind.Given as goal

abbrev pub invariant-loop-fault : goal.invariant-loop-fault
invariant-loop-fault l = record {
  within : l.cursor.place ≤ length l.cursor.bytes;
  same_fault : fault_of (items_behind l.cursor.bytes l.cursor.place) ≡ fault_of (items_behind l.fn.cursor.bytes l.fn.cursor.place);
}

abbrev pub decreases-loop-fault : goal.decreases-loop-fault
decreases-loop-fault l = length l.cursor.bytes - l.cursor.place
