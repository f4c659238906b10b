-- The items that are left of a message, behind one that was read ahead.
use Rattle.std.specs.Prelude.{ℕ, List, [], Result, Ok, Err}
use Rattle.ber_tlv.specs.Item.{ItemData}
use Rattle.ber_tlv.specs.declared.item.TlvFault.{TlvFault}

-- the bytes of the whole message, and the items that are left to read
pub record FieldsData : Type 0 where
  pub bytes : List ℕ
  pub left : List ItemData

-- the items, where there is no fault
abbrev pub items_or_none : Result (List ItemData) TlvFault → List ItemData
items_or_none (Ok items) = items
items_or_none (Err fault) = []
