-- The fields before field 55, in rising order, read from the bytes that are left (ISO 8583:1987; own).
use Rattle.std.specs.Prelude.{ℕ, true, false, Bool, if◌then◌else◌, List, ◌∷◌, ◌++◌, length, take, drop, bytes_eq, Option, Some, None, Result, Ok, Err}
use Rattle.emv_dict.specs.Nibbles.{packed}
use Rattle.emv_dict.specs.Pan.{is_pan_length}
use Rattle.iso_message.specs.declared.fault.IsoFault.{IsoFault}
use Rattle.iso_message.specs.declared.fault.IsoFault.TheVariants.{Bitmap, Field}
use Rattle.iso_message.specs.declared.front.Acceptor.{Acceptor}
use Rattle.iso_message.specs.declared.front.Numbers.{Numbers}
use Rattle.iso_message.specs.declared.front.RequestFront.{RequestFront}
use Rattle.iso_message.specs.declared.front.PresentFront.{PresentFront}
use Rattle.iso_message.specs.declared.front.ReversalFront.{ReversalFront}
use Rattle.iso_message.specs.Layout.{bitmap, request_numbers, present_numbers, reversal_numbers}
use Rattle.iso_message.specs.Left.{Left, ◌>>=◌, only_if, part_at, digits_part_at, counted_at, bits_at}
use Rattle.iso_message.specs.Text.{values, are_numerals, zeros, counter_digits}

-- 2, the account number: its digits, of which there are 13 to 19
unfoldable pub account_field_at : Left → Result (List ℕ × Left) IsoFault
account_field_at left = do
  characters ← counted_at 2 2 left
  right ← only_if (are_numerals characters.0) (Field 2)
  sized ← only_if (is_pan_length (length characters.0)) (Field 2)
  Ok (values characters.0, characters.1)

-- 3, the processing code: 9C in two digits, and four zeros
unfoldable pub processing_at : Left → Result (List ℕ × Left) IsoFault
processing_at left = do
  characters ← digits_part_at 3 6 left
  right ← only_if (bytes_eq (drop 2 characters.0) (zeros 4)) (Field 3)
  Ok (packed (values (take 2 characters.0)), characters.1)

-- 4, 11 and 37: the amount, and the two numbers that the card's counter gives
unfoldable pub numbers_at : Left → Result (Numbers × Left) IsoFault
numbers_at left = do
  amount ← digits_part_at 4 12 left
  audit ← digits_part_at 11 6 amount.1
  reference ← part_at 12 audit.1
  Ok (record { t9f02 = packed (values amount.0); audit = audit.0; reference = reference.0 }, reference.1)

-- 41 and 49: the terminal, and the currency behind a zero
unfoldable pub acceptor_at : Left → Result (Acceptor × Left) IsoFault
acceptor_at left = do
  terminal ← part_at 8 left
  currency ← digits_part_at 49 3 terminal.1
  Ok (record { t9f1c = terminal.0; t5f2a = packed (0 ∷ values currency.0) }, currency.1)

-- whether the bitmap names the block of a PIN
abbrev pub pin_named : List ℕ → Result Bool IsoFault
pin_named bits =
    if bytes_eq bits (bitmap (request_numbers true)) then Ok true
    else if bytes_eq bits (bitmap (request_numbers false)) then Ok false
    else Err Bitmap

unfoldable pub request_bitmap_at : Left → Result (Bool × Left) IsoFault
request_bitmap_at left = do
  part ← part_at 8 left
  named ← pin_named part.0
  Ok (named, part.1)

-- 52, the block of a PIN where the bitmap names it
unfoldable pub pin_at : Bool → Left → Result (Option (List ℕ) × Left) IsoFault
pin_at true left = do
  block ← part_at 8 left
  Ok (Some block.0, block.1)
pin_at false left = Ok (None, left)

unfoldable pub request_front_at : Left → Result (RequestFront × Left) IsoFault
request_front_at left = do
  named ← request_bitmap_at left
  pan ← account_field_at named.1
  t9c ← processing_at pan.1
  numbers ← numbers_at t9c.1
  acceptor ← acceptor_at numbers.1
  pin ← pin_at named.0 acceptor.1
  Ok (record { pan = pan.0; t9c = t9c.0; numbers = numbers.0; acceptor = acceptor.0; tdf11 = pin.0 }, pin.1)

unfoldable pub present_front_at : Left → Result (PresentFront × Left) IsoFault
present_front_at left = do
  bits ← bits_at (bitmap present_numbers) left
  pan ← account_field_at bits
  t9c ← processing_at pan.1
  numbers ← numbers_at t9c.1
  code ← part_at 2 numbers.1
  acceptor ← acceptor_at code.1
  Ok (record { pan = pan.0; t9c = t9c.0; numbers = numbers.0; t8a = code.0; acceptor = acceptor.0 }, acceptor.1)

unfoldable pub reversal_front_at : Left → Result (ReversalFront × Left) IsoFault
reversal_front_at left = do
  bits ← bits_at (bitmap reversal_numbers) left
  pan ← account_field_at bits
  numbers ← numbers_at pan.1
  code ← part_at 2 numbers.1
  acceptor ← acceptor_at code.1
  Ok (record { pan = pan.0; numbers = numbers.0; t8a = code.0; acceptor = acceptor.0 }, acceptor.1)

-- 11 and 37 are those of the counter
unfoldable pub tied : Numbers → List ℕ → Result (Unit {0}) IsoFault
tied numbers t9f36 = do
  audit ← only_if (bytes_eq numbers.audit (counter_digits t9f36)) (Field 11)
  only_if (bytes_eq numbers.reference (zeros 6 ++ counter_digits t9f36)) (Field 37)
