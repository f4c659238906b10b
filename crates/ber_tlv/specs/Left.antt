-- The objects of a byte string as one value, which `Items` and `FaultBehind` determine (EMV 4.3 Book 3 Annex B).
use Rattle.std.specs.Prelude.{ℕ, zero, suc, ◌+◌, ◌==◌, if◌then◌else◌, List, [], ◌∷◌, length, Option, Some, None, Result, Ok, Err, slice_get}
use Rattle.ber_tlv.specs.Item.{ItemData, item_at, ◌>>=◌}
use Rattle.ber_tlv.specs.declared.item.TlvFault.{TlvFault}

-- one object, and those that are left behind it
abbrev pub then_left : ItemData → Result (List ItemData) TlvFault → Result (List ItemData) TlvFault
then_left item (Ok items) = Ok (item ∷ items)
then_left item (Err fault) = Err fault

-- nothing at the end, else what a byte 00 or what an object leaves
abbrev pub by_byte : Option ℕ → Result (List ItemData) TlvFault → Result (List ItemData) TlvFault → Result (List ItemData) TlvFault
by_byte None padding object = Ok []
by_byte (Some byte) padding object = (if byte == 0 then padding else object)

-- the objects from a place on; `count` is more than the number of bytes that are left
unfoldable pub items_from : ℕ → List ℕ → ℕ → Result (List ItemData) TlvFault
items_from zero bytes place = Ok []
items_from (suc count) bytes place =
    by_byte (slice_get bytes place)
    (items_from count bytes (place + 1))
    (item_at bytes place >>= (λ found. then_left found.0 (items_from count bytes found.1)))

-- the objects from a place to the end, or the fault at the first place where none stands
unfoldable pub items_behind : List ℕ → ℕ → Result (List ItemData) TlvFault
items_behind bytes place = items_from (suc (length bytes)) bytes place

-- the objects of a byte string, or its fault
abbrev pub items_of : List ℕ → Result (List ItemData) TlvFault
items_of bytes = items_behind bytes 0

-- the fault, where there is one
abbrev pub fault_of : Result (List ItemData) TlvFault → Option TlvFault
fault_of (Ok items) = None
fault_of (Err fault) = Some fault
