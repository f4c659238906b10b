use Rattle.std.proofs.Common.{◌≡◌, ◌-◌, ◌≤◌, List, ℕ, length, Option, Some, None, Result, Ok, Err, option_map}
use Rattle.ber_tlv.specs.Direct.{first_value, found_value}
use Rattle.ber_tlv.specs.Item.{ItemData}
use Rattle.ber_tlv.specs.Left.{items_of, items_behind}
use Rattle.ber_tlv.specs.declared.item.TlvFault.{TlvFault}
use Rattle.ber_tlv.proofs.direct.first_value.Given as goal

-- what is found, where a value was found before
abbrev pub found_behind : ℕ → Option (List ℕ) → Result (List ItemData) TlvFault → Result (Option (List ℕ)) TlvFault
found_behind tag (Some value) (Ok items) = Ok (Some value)
found_behind tag None (Ok items) = Ok (first_value tag items)
found_behind tag before (Err fault) = Err fault

abbrev pub invariant-loop-item : goal.invariant-loop-item
invariant-loop-item l = record {
  within : l.cursor.place ≤ length l.cursor.bytes;
  same : l.cursor.bytes ≡ l.bytes;
  found : found_behind l.tag.0 (option_map (λ value. value.now) l.found) (items_behind l.cursor.bytes l.cursor.place) ≡ found_value l.tag.0 (items_of l.bytes);
}

abbrev pub decreases-loop-item : goal.decreases-loop-item
decreases-loop-item l = length l.cursor.bytes - l.cursor.place
