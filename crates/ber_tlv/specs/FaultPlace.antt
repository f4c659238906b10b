-- Where a fault of the coding is (EMV 4.3 Book 3 Annex B).
use Rattle.std.specs.Prelude.{ℕ, ◌+◌, ◌<◌, ◌≤◌, List, length, Option, Some, None}
use Rattle.ber_tlv.specs.declared.item.TlvFault.{TlvFault}
use Rattle.ber_tlv.specs.declared.item.TlvFault.TheVariants.{Truncated, BadLength, LongTag}

-- the place of a fault
abbrev pub place_of_fault : TlvFault → ℕ
place_of_fault (Truncated place) = place
place_of_fault (BadLength place) = place
place_of_fault (LongTag place) = place

-- 0 where there is none
abbrev pub place_or_zero : Option TlvFault → ℕ
place_or_zero None = 0
place_or_zero (Some fault) = place_of_fault fault

-- the fault of a byte string that begins behind so many bytes, in the string that these belong to
abbrev pub moved_fault : ℕ → TlvFault → TlvFault
moved_fault front (Truncated place) = Truncated (front + place)
moved_fault front (BadLength place) = BadLength (front + place)
moved_fault front (LongTag place) = LongTag (front + place)

-- the fault is at a byte of the string from a place on
pub record Within (bytes : List ℕ) (from : ℕ) (fault : TlvFault) : Type 0 where
  pub onward : from ≤ place_of_fault fault
  pub inside : place_of_fault fault < length bytes
