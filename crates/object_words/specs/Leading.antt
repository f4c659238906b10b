-- The data objects that stand in a byte string before its first fault (EMV 4.3 Book 3 Annex B).
use Rattle.std.specs.Prelude.{ℕ, zero, suc, ◌+◌, ◌==◌, if◌then◌else◌, List, [], ◌∷◌, length, Option, Some, None, Result, Ok, Err, slice_get}
use Rattle.ber_tlv.specs.Item.{ItemData, item_at}
use Rattle.ber_tlv.specs.Seen.{seen}
use Rattle.ber_tlv.specs.declared.item.Item.{Item}
use Rattle.ber_tlv.specs.declared.item.TlvFault.{TlvFault}

abbrev pub with_item : Result (ItemData × ℕ) TlvFault → (ℕ → List ItemData) → List ItemData
with_item (Ok found) more = found.0 ∷ more found.1
with_item (Err fault) more = []

-- nothing at the end, else what a byte 00 or what an object leaves
abbrev pub items_by_byte : Option ℕ → List ItemData → List ItemData → List ItemData
items_by_byte None padding object = []
items_by_byte (Some byte) padding object = (if byte == 0 then padding else object)

-- the objects from a place on; `count` is more than the number of bytes that are left
unfoldable pub leading_from : ℕ → List ℕ → ℕ → List ItemData
leading_from zero bytes place = []
leading_from (suc count) bytes place =
    items_by_byte (slice_get bytes place) (leading_from count bytes (place + 1)) (with_item (item_at bytes place) (leading_from count bytes))

-- the objects of a string from a place on, before the first fault
unfoldable pub leading_behind : List ℕ → ℕ → List ItemData
leading_behind bytes place = leading_from (suc (length bytes)) bytes place

abbrev pub leading_items : List ℕ → List ItemData
leading_items bytes = leading_behind bytes 0

-- what a step gave, with the objects behind it
abbrev pub then_leading : Option Item → List ItemData → List ItemData
then_leading None rest = []
then_leading (Some item) rest = seen item ∷ rest
