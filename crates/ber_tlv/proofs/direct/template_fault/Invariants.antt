use Rattle.std.proofs.Common.{◌≡◌, ◌-◌, ◌≤◌, length}
use Rattle.ber_tlv.specs.Direct.{template_fault, template_fault_behind}
use Rattle.ber_tlv.proofs.direct.template_fault.Given as goal

abbrev pub invariant-loop-item : goal.invariant-loop-item
invariant-loop-item l = record {
  within : l.cursor.place ≤ length l.cursor.bytes;
  same_bytes : l.cursor.bytes ≡ l.bytes;
  same_fault : template_fault_behind l.tag.0 l.cursor.bytes l.cursor.place ≡ template_fault l.tag.0 l.bytes;
}

abbrev pub decreases-loop-item : goal.decreases-loop-item
decreases-loop-item l = length l.cursor.bytes - l.cursor.place
