-- The call that bytes are, or its first fault in the order of the bytes; fields 11 and 37 are compared with
-- 9F36 behind field 55 (ISO 8583:1987; own).
use Rattle.std.specs.Prelude.{ℕ, if◌then◌else◌, List, bytes_eq, Result, Ok, Err}
use Rattle.auth_message.specs.declared.message.Incoming.{Incoming}
use Rattle.auth_message.specs.declared.message.Incoming.TheVariants.{Request, Present, Reverse}
use Rattle.auth_message.specs.declared.reversal.ReversalFields.{ReversalFields}
use Rattle.auth_message.specs.Data.{RequestData, PresentData}
use Rattle.iso_message.specs.declared.fault.IsoFault.{IsoFault}
use Rattle.iso_message.specs.declared.fault.IsoFault.TheVariants.{WrongType}
use Rattle.iso_message.specs.declared.kind.CallKind.{CallKind}
use Rattle.iso_message.specs.declared.kind.CallKind.TheVariants as kind
use Rattle.iso_message.specs.Front.{request_front_at, present_front_at, reversal_front_at, tied}
use Rattle.iso_message.specs.Items.{request_in, present_in, reversal_in}
use Rattle.iso_message.specs.Layout.{call_type}
use Rattle.iso_message.specs.Left.{Left, ◌>>=◌, part_at, items_at, in_55, nothing_left}

-- the kind of the message that has a type
abbrev pub kind_by : (CallKind → List ℕ) → List ℕ → Result CallKind IsoFault
kind_by type found =
    if bytes_eq found (type kind.Request) then Ok kind.Request
    else if bytes_eq found (type kind.Presentment) then Ok kind.Presentment
    else if bytes_eq found (type kind.Reversal) then Ok kind.Reversal
    else Err WrongType

-- the type at the front of a message
unfoldable pub call_kind_at : (CallKind → List ℕ) → Left → Result (CallKind × Left) IsoFault
call_kind_at type left = do
  part ← part_at 4 left
  found ← kind_by type part.0
  Ok (found, part.1)

-- a message of which nothing was read
abbrev pub unread_message : List ℕ → Left
unread_message bytes = record { place = 0; bytes = bytes }

unfoldable pub iso_request_at : Left → Result RequestData IsoFault
iso_request_at left = do
  front ← request_front_at left
  items ← items_at front.1
  found ← in_55 (request_in front.0 items.0.1)
  same ← tied front.0.numbers found.paid.t9f36
  end ← nothing_left items.1
  Ok found

unfoldable pub iso_present_at : Left → Result PresentData IsoFault
iso_present_at left = do
  front ← present_front_at left
  items ← items_at front.1
  found ← in_55 (present_in front.0 items.0.1)
  same ← tied front.0.numbers found.paid.t9f36
  end ← nothing_left items.1
  Ok found

unfoldable pub iso_reversal_at : Left → Result ReversalFields IsoFault
iso_reversal_at left = do
  front ← reversal_front_at left
  items ← items_at front.1
  found ← in_55 (reversal_in front.0 items.0.1)
  same ← tied front.0.numbers found.t9f36
  end ← nothing_left items.1
  Ok found

-- the call of a kind, behind its type
abbrev pub call_at : CallKind → Left → Result Incoming IsoFault
call_at kind.Request left = iso_request_at left >>= λ fields. Ok (Request fields)
call_at kind.Presentment left = iso_present_at left >>= λ fields. Ok (Present fields)
call_at kind.Reversal left = iso_reversal_at left >>= λ fields. Ok (Reverse fields)

-- the call from its type on
abbrev pub call_from : Left → Result Incoming IsoFault
call_from left = call_kind_at call_type left >>= λ found. call_at found.0 found.1

-- the call
abbrev pub call_of : List ℕ → Result Incoming IsoFault
call_of bytes = call_from (unread_message bytes)
