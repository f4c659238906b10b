-- The data objects of a byte string at any depth: each object in the order of its first byte, a
-- constructed one before the objects that its value is made of (EMV 4.3 Book 3 Annex B).
use Rattle.std.specs.Prelude.{◌≡◌, ℕ, zero, suc, ◌+◌, ◌-◌, ◌==◌, if◌then◌else◌, List, length, take, Option, Some, None, Result, Ok, Err, slice_get, MatchBool}
use Rattle.ber_tlv.specs.Item.{ItemData, item_at}
use Rattle.ber_tlv.specs.Items.{Zeros, NextItem}
use Rattle.ber_tlv.specs.Tag.{names_template}
use Rattle.ber_tlv.specs.declared.item.TlvFault.{TlvFault}

-- the end, the fault that ends the walk, or an object and the rest of the walk
pub data Walked : Type 0 where
  Done : Walked
  Broken : TlvFault → Walked
  Met : ItemData → Walked → Walked

-- one walk, and where no fault ended it, another behind it
abbrev pub then_walked : Walked → Walked → Walked
then_walked Done behind = behind
then_walked (Broken fault) behind = Broken fault
then_walked (Met item rest) behind = Met item (then_walked rest behind)

-- the end where the bytes end, else what a byte 00 or what an object leaves
abbrev pub walk_by_byte : Option ℕ → Walked → Walked → Walked
walk_by_byte None padding object = Done
walk_by_byte (Some byte) padding object = (if byte == 0 then padding else object)

-- an object, and if it is constructed what its value holds, and what stands behind it
abbrev pub met_object : Result (ItemData × ℕ) TlvFault → (ItemData × ℕ → Walked) → (ItemData × ℕ → Walked) → Walked
met_object (Ok found) inside behind = Met found.0 (then_walked (if names_template found.0.tag then inside found else Done) (behind found))
met_object (Err fault) inside behind = Broken fault

-- the walk from a place on; `count` is more than the number of bytes that are left
unfoldable pub walk_from : ℕ → List ℕ → ℕ → Walked
walk_from zero bytes place = Done
walk_from (suc count) bytes place =
    walk_by_byte (slice_get bytes place)
    (walk_from count bytes (place + 1))
    (met_object (item_at bytes place)
    (λ found. walk_from count (take found.1 bytes) (found.1 - length found.0.value))
    (λ found. walk_from count bytes found.1))

-- the walk from a place to the end; places count the bytes from the first of the string, inside
-- constructed objects too
unfoldable pub walk_behind : List ℕ → ℕ → Walked
walk_behind bytes place = walk_from (suc (length bytes)) bytes place

-- the walk of a whole byte string
abbrev pub walk_of : List ℕ → Walked
walk_of bytes = walk_behind bytes 0

-- the walk of what an object holds that ends before `next`
abbrev pub walk_inside : List ℕ → ItemData → ℕ → Walked
walk_inside bytes item next = (if names_template item.tag then walk_behind (take next bytes) (next - length item.value) else Done)

-- the fault that ended the walk, if one did
abbrev pub walk_fault : Walked → Option TlvFault
walk_fault Done = None
walk_fault (Broken fault) = Some fault
walk_fault (Met item rest) = walk_fault rest

-- objects in a row: none, or one with those that its value is made of, and those behind it
pub data Forest : Type 0 where
  Bare : Forest
  Grown : ItemData → Forest → Forest → Forest

-- from a place on, the bytes are these objects, and the value of each constructed one is spelled
-- by its children, the others have none; places count from the first byte of the string
abbrev pub Spells : List ℕ → ℕ → Forest → Type 0
Spells bytes place Bare = Zeros bytes place (length bytes)
Spells bytes place (Grown item children behind) =
    (next : ℕ) × NextItem bytes place item next
    × MatchBool (names_template item.tag) (Spells (take next bytes) (next - length item.value) children) (children ≡ Bare)
    × Spells bytes next behind

-- the walk of objects in a row
abbrev pub walk_of_forest : Forest → Walked
walk_of_forest Bare = Done
walk_of_forest (Grown item children behind) = Met item (then_walked (walk_of_forest children) (walk_of_forest behind))
