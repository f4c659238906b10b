-- Reading a message's fields in order: each step takes its part from the front of the bytes that are left,
-- or gives the message's first fault (ISO 8583:1987; own).
use Rattle.std.specs.Prelude.{ℕ, ◌+◌, Bool, ◌==◌, nat_le, if◌then◌else◌, List, length, take, drop, bytes_eq, Result, Ok, Err}
use Rattle.ber_tlv.specs.Item.{ItemData}
use Rattle.ber_tlv.specs.Left.{items_of}
use Rattle.ber_tlv.specs.declared.item.TlvFault.{TlvFault}
use Rattle.emv_dict.specs.Bcd.{number_of_digits}
use Rattle.auth_message.specs.declared.fault.MessageFault.{MessageFault}
use Rattle.auth_message.specs.Spelling.{spelled}
use Rattle.iso_message.specs.declared.fault.IsoFault.{IsoFault}
use Rattle.iso_message.specs.declared.fault.IsoFault.TheVariants.{Short, Bitmap, Field, Rest}
use Rattle.iso_message.specs.Pairs.{pairs}
use Rattle.iso_message.specs.Text.{values, are_numerals}

-- the bytes that are left, and the place of the first one in the message
pub record Left : Type 0 where
  pub place : ℕ
  pub bytes : List ℕ

-- the next step, or the fault that ended the reading
infixl 10 ◌>>=◌
abbrev pub ◌>>=◌ : {A B : Type 0} → Result A IsoFault → (A → Result B IsoFault) → Result B IsoFault
Ok a >>= f = f a
Err fault >>= f = Err fault

-- goes on where the test holds
abbrev pub only_if : Bool → IsoFault → Result (Unit {0}) IsoFault
only_if right fault = (if right then Ok tt else Err fault)

-- the next bytes, so many, of a part that begins at a place
unfoldable pub part_from : ℕ → ℕ → Left → Result (List ℕ × Left) IsoFault
part_from start count left =
    if nat_le count (length left.bytes)
    then Ok (take count left.bytes, record { place = left.place + count; bytes = drop count left.bytes })
    else Err (Short start)

-- a part of so many bytes
abbrev pub part_at : ℕ → Left → Result (List ℕ × Left) IsoFault
part_at count left = part_from left.place count left

-- so many digits of a field, as characters
unfoldable pub digits_part_at : ℕ → ℕ → Left → Result (List ℕ × Left) IsoFault
digits_part_at field count left = do
  part ← part_at count left
  right ← only_if (are_numerals part.0) (Field field)
  Ok part

-- a field's content behind its length of so many digits; the bytes that end within it end within the field
unfoldable pub counted_at : ℕ → ℕ → Left → Result (List ℕ × Left) IsoFault
counted_at field count left = do
  size ← digits_part_at field count left
  part_from left.place (number_of_digits (values size.0)) size.1

-- this bitmap
unfoldable pub bits_at : List ℕ → Left → Result Left IsoFault
bits_at bits left = do
  part ← part_at 8 left
  right ← only_if (bytes_eq part.0 bits) Bitmap
  Ok part.1

-- nothing is left
abbrev pub nothing_left : Left → Result (Unit {0}) IsoFault
nothing_left left = only_if (length left.bytes == 0) (Rest left.place)

-- items that are spelled as they are written, one behind the other
abbrev pub as_written : List ℕ → Result (List ItemData) TlvFault → Result (List ItemData) IsoFault
as_written content (Ok items) = (if bytes_eq (spelled (pairs items)) content then Ok items else Err (Field 55))
as_written content (Err fault) = Err (Field 55)

-- field 55: its content, and its items
unfoldable pub items_at : Left → Result ((List ℕ × List ItemData) × Left) IsoFault
items_at left = do
  content ← counted_at 55 4 left
  items ← as_written content.0 (items_of content.0)
  Ok ((content.0, items), content.1)

-- a fault among the items is one of field 55
abbrev pub in_55 : {A : Type 0} → Result A MessageFault → Result A IsoFault
in_55 (Ok found) = Ok found
in_55 (Err fault) = Err (Field 55)
