-- The data objects that stand directly in a byte string, and those directly in its templates (EMV 4.3
-- Book 3 Annex B).
use Rattle.std.specs.Prelude.{◌≡◌, ℕ, zero, suc, ◌+◌, ◌-◌, ◌==◌, if◌then◌else◌, List, [], ◌∷◌, length, map, filter, Option, Some, None, option_map, Result, Ok, Err, slice_get}
use Rattle.std.specs.List.{AllByRecursion}
use Rattle.std.specs.Option.{option_or}
use Rattle.ber_tlv.specs.Item.{ItemData, item_at}
use Rattle.ber_tlv.specs.Left.{items_of, fault_of}
use Rattle.ber_tlv.specs.FaultPlace.{moved_fault}
use Rattle.ber_tlv.specs.declared.item.TlvFault.{TlvFault}

-- the value of the first object of a tag
abbrev pub first_value : ℕ → List ItemData → Option (List ℕ)
first_value tag [] = None
first_value tag (item ∷ items) = (if item.tag == tag then Some item.value else first_value tag items)

-- the same in a reading of a byte string, or the reading's fault
abbrev pub found_value : ℕ → Result (List ItemData) TlvFault → Result (Option (List ℕ)) TlvFault
found_value tag (Ok items) = Ok (first_value tag items)
found_value tag (Err fault) = Err fault

-- the values of the objects of a tag in a reading, in their order; none where it is a fault
abbrev pub values_of : ℕ → Result (List ItemData) TlvFault → List (List ℕ)
values_of tag (Ok items) = map (λ item. item.value) (filter (λ item. item.tag == tag) items)
values_of tag (Err fault) = []

-- the value of an object of this tag
abbrev pub value_if : ℕ → ItemData → Option (List ℕ)
value_if tag item = (if item.tag == tag then Some item.value else None)

-- the value where a byte string is one object of this tag alone
abbrev pub sole_value : ℕ → Result (List ItemData) TlvFault → Option (List ℕ)
sole_value tag (Ok []) = None
sole_value tag (Ok (item ∷ [])) = value_if tag item
sole_value tag (Ok (item ∷ other ∷ items)) = None
sole_value tag (Err fault) = None

-- the fault of the value of an object of this tag, which ends before `next`; none in other objects
abbrev pub fault_inside : ℕ → ItemData → ℕ → Option TlvFault
fault_inside tag item next =
    if item.tag == tag then option_map (moved_fault (next - length item.value)) (fault_of (items_of item.value)) else None

-- a fault, or the fault in an object, or else the one behind it
abbrev pub fault_at_object : ℕ → Result (ItemData × ℕ) TlvFault → (ℕ → Option TlvFault) → Option TlvFault
fault_at_object tag (Ok found) behind = option_or (fault_inside tag found.0 found.1) (behind found.1)
fault_at_object tag (Err fault) behind = Some fault

-- none at the end, else what a byte 00 or what an object leaves
abbrev pub fault_by_byte : Option ℕ → Option TlvFault → Option TlvFault → Option TlvFault
fault_by_byte None padding object = None
fault_by_byte (Some byte) padding object = (if byte == 0 then padding else object)

-- the first fault from a place on; `count` is more than the number of bytes that are left
unfoldable pub template_fault_from : ℕ → ℕ → List ℕ → ℕ → Option TlvFault
template_fault_from zero tag bytes place = None
template_fault_from (suc count) tag bytes place =
    fault_by_byte (slice_get bytes place)
    (template_fault_from count tag bytes (place + 1))
    (fault_at_object tag (item_at bytes place) (template_fault_from count tag bytes))

unfoldable pub template_fault_behind : ℕ → List ℕ → ℕ → Option TlvFault
template_fault_behind tag bytes place = template_fault_from (suc (length bytes)) tag bytes place

-- the first fault, in the order of the bytes, among the objects of a byte string and those directly
-- in each of its objects of this tag
abbrev pub template_fault : ℕ → List ℕ → Option TlvFault
template_fault tag bytes = template_fault_behind tag bytes 0

-- the objects of this tag among these are lists of objects in turn
abbrev pub AreListsInside : ℕ → List ItemData → Type 0
AreListsInside tag items = AllByRecursion (λ item. item.tag ≡ tag → fault_of (items_of item.value) ≡ None) items

-- the bytes are a list of objects, and so is the value of each one of this tag
pub record IsWholeList (tag : ℕ) (bytes : List ℕ) : Type 0 where
  pub items : List ItemData
  pub listed : items_of bytes ≡ Ok items
  pub inside : AreListsInside tag items
