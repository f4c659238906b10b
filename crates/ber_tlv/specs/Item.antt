-- One data object at a place of a byte string: a tag of one to three bytes, a length of one to
-- three bytes, and that many bytes of value (EMV 4.3 Book 3 Annex B1 and B2).
use Rattle.std.specs.Prelude.{ℕ, ◌<◌, ◌+◌, ◌*◌, ◌%◌, ◌==◌, nat_lt, nat_le, if◌then◌else◌, List, length, Option, Some, None, Result, Ok, Err, slice_get, slice_index, slice_range}
use Rattle.ber_tlv.specs.declared.item.TlvFault.{TlvFault}
use Rattle.ber_tlv.specs.declared.item.TlvFault.TheVariants.{Truncated, BadLength, LongTag}

-- each number is a byte
abbrev pub AreBytes : List ℕ → Type 0
AreBytes bytes = (k : ℕ) → slice_index bytes k < 256

-- a data object: its tag as a number, the bytes of its value, the place of its first byte
pub record ItemData : Type 0 where
  pub tag : ℕ
  pub value : List ℕ
  pub start : ℕ

-- the next step of a reading, or the fault that ended it
infixl 10 ◌>>=◌
abbrev pub ◌>>=◌ : {A B : Type 0} → Result A TlvFault → (A → Result B TlvFault) → Result B TlvFault
Ok a >>= f = f a
Err fault >>= f = Err fault

-- the byte, where the string goes so far; the object begins at `start`
abbrev pub or_cut : ℕ → Option ℕ → Result ℕ TlvFault
or_cut start (Some byte) = Ok byte
or_cut start None = Err (Truncated start)

unfoldable pub byte_at : List ℕ → ℕ → ℕ → Result ℕ TlvFault
byte_at bytes start place = or_cut start (slice_get bytes place)

-- the tag that begins at a place, and the place behind it: bytes follow the first where its
-- five low bits are all 1, and the second where its bit 8 is 1
unfoldable pub third_tag_byte : List ℕ → ℕ → ℕ → Result (ℕ × ℕ) TlvFault
third_tag_byte bytes start front = do
  third ← byte_at bytes start (start + 2)
  if nat_lt third 128 then Ok (front * 256 + third, start + 3) else Err (LongTag start)

unfoldable pub second_tag_byte : List ℕ → ℕ → ℕ → Result (ℕ × ℕ) TlvFault
second_tag_byte bytes start first = do
  second ← byte_at bytes start (start + 1)
  if nat_lt second 128 then Ok (first * 256 + second, start + 2) else third_tag_byte bytes start (first * 256 + second)

-- the tag that begins at a place, with the place behind it, or its fault
unfoldable pub tag_at : List ℕ → ℕ → Result (ℕ × ℕ) TlvFault
tag_at bytes start = do
  first ← byte_at bytes start start
  if first % 32 == 31 then second_tag_byte bytes start first else Ok (first, start + 1)

-- the length that stands at a place, and the place behind it: one byte below 80, or 81 and one
-- byte, or 82 and two bytes
unfoldable pub one_byte_length : List ℕ → ℕ → ℕ → Result (ℕ × ℕ) TlvFault
one_byte_length bytes start place = do
  low ← byte_at bytes start (place + 1)
  Ok (low, place + 2)

unfoldable pub two_byte_length : List ℕ → ℕ → ℕ → Result (ℕ × ℕ) TlvFault
two_byte_length bytes start place = do
  high ← byte_at bytes start (place + 1)
  low ← byte_at bytes start (place + 2)
  Ok (high * 256 + low, place + 3)

unfoldable pub long_length : List ℕ → ℕ → ℕ → ℕ → Result (ℕ × ℕ) TlvFault
long_length bytes start place first =
    if first == 129 then one_byte_length bytes start place
    else if first == 130 then two_byte_length bytes start place
    else Err (BadLength place)

unfoldable pub length_at : List ℕ → ℕ → ℕ → Result (ℕ × ℕ) TlvFault
length_at bytes start place = do
  first ← byte_at bytes start place
  if nat_lt first 128 then Ok (first, place + 1) else long_length bytes start place first

-- the object of this tag, whose value begins at a place and has this many bytes, and the place
-- behind it
unfoldable pub value_at : List ℕ → ℕ → ℕ → ℕ → ℕ → Result (ItemData × ℕ) TlvFault
value_at bytes start tag place count =
    if nat_le (place + count) (length bytes)
    then Ok (record { tag = tag; value = slice_range bytes place (place + count); start = start }, place + count)
    else Err (Truncated start)

-- the object that begins at a place, and the place behind it; the faults of its tag come first,
-- then those of its length, then that of its value
unfoldable pub item_at : List ℕ → ℕ → Result (ItemData × ℕ) TlvFault
item_at bytes start = do
  tag ← tag_at bytes start
  count ← length_at bytes start tag.1
  value_at bytes start tag.0 count.1 count.0
