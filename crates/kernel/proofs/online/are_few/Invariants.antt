use Rattle.std.proofs.Common.{◌≡◌, ℕ, ◌≤◌, ◌+◌, ◌-◌, nat_le, Bool, false, List, length, Result, Ok, Err}
use Rattle.ber_tlv.specs.Item.{ItemData}
use Rattle.ber_tlv.specs.Left.{items_behind, items_of}
use Rattle.ber_tlv.specs.declared.item.TlvFault.{TlvFault}
use Rattle.kernel.proofs.online.are_few.Given as goal
use Rattle.terminal_state.specs.Scripts.{has_few_scripts}

-- the same behind so many objects
abbrev pub few_behind : ℕ → Result (List ItemData) TlvFault → Bool
few_behind count (Ok items) = nat_le (count + length items) 8
few_behind count (Err fault) = false

abbrev pub invariant-loop-count : goal.invariant-loop-count
invariant-loop-count l = record {
  within : l.cursor.place ≤ length l.cursor.bytes;
  same_bytes : l.cursor.bytes ≡ l.scripts;
  small : l.count ≤ l.cursor.place;
  same : few_behind l.count (items_behind l.cursor.bytes l.cursor.place) ≡ has_few_scripts (items_of l.scripts);
}

abbrev pub decreases-loop-count : goal.decreases-loop-count
decreases-loop-count l = length l.cursor.bytes - l.cursor.place
