-- The data objects of a whole byte string, or its fault (EMV 4.3 Book 3 Annex B; ISO/IEC 7816-4,
-- 5.2.2: bytes 00 before, between and after data objects have no meaning).
use Rattle.std.specs.Prelude.{◌≡◌, ℕ, ◌<◌, ◌≤◌, List, [], ◌∷◌, length, Some, Ok, Err, slice_get}
use Rattle.ber_tlv.specs.Item.{ItemData, item_at}
use Rattle.ber_tlv.specs.declared.item.TlvFault.{TlvFault}

-- only bytes 00 stand from one place to another
pub record Zeros (bytes : List ℕ) (from to : ℕ) : Type 0 where
  pub upward : from ≤ to
  pub within : to ≤ length bytes
  pub zero : (k : ℕ) → from ≤ k → k < to → slice_get bytes k ≡ Some 0

-- a byte other than 00 stands at this place
pub record HasObjectAt (bytes : List ℕ) (place : ℕ) : Type 0 where
  pub byte : ℕ
  pub there : slice_get bytes place ≡ Some byte
  pub not_zero : 0 < byte

-- from this place on, bytes 00 aside, the first object is this one, and the next place is behind it
pub record NextItem (bytes : List ℕ) (place : ℕ) (item : ItemData) (next : ℕ) : Type 0 where
  pub start : ℕ
  pub zeros : Zeros bytes place start
  pub begins : HasObjectAt bytes start
  pub stands : item_at bytes start ≡ Ok (item, next)

-- from this place on, bytes 00 aside, no object stands but this fault
pub record NextFault (bytes : List ℕ) (place : ℕ) (fault : TlvFault) : Type 0 where
  pub start : ℕ
  pub zeros : Zeros bytes place start
  pub begins : HasObjectAt bytes start
  pub broken : item_at bytes start ≡ Err fault

-- the bytes from this place to the end are these objects
abbrev pub Items : List ℕ → ℕ → List ItemData → Type 0
Items bytes place [] = Zeros bytes place (length bytes)
Items bytes place (item ∷ items) = (next : ℕ) × NextItem bytes place item next × Items bytes next items

-- from this place on these objects stand, and behind them is this fault
abbrev pub FaultBehind : List ℕ → ℕ → List ItemData → TlvFault → Type 0
FaultBehind bytes place [] fault = NextFault bytes place fault
FaultBehind bytes place (item ∷ items) fault = (next : ℕ) × NextItem bytes place item next × FaultBehind bytes next items fault
