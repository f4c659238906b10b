-- The reply that bytes are, with the kind of call that it answers, or its first fault in the order of the
-- bytes (ISO 8583:1987; own).
use Rattle.std.specs.Prelude.{List, ℕ, Result, Ok}
use Rattle.auth_message.specs.Reply.{ReplyData}
use Rattle.iso_message.specs.declared.fault.IsoFault.{IsoFault}
use Rattle.iso_message.specs.declared.kind.CallKind.{CallKind}
use Rattle.iso_message.specs.Items.{reply_with_code}
use Rattle.iso_message.specs.Layout.{reply_type, bitmap, reply_numbers}
use Rattle.iso_message.specs.Left.{Left, ◌>>=◌, part_at, bits_at, items_at, in_55, nothing_left}
use Rattle.iso_message.specs.Reading.{call_kind_at, unread_message}

-- a reply behind its type
unfoldable pub iso_reply_at : Left → Result ReplyData IsoFault
iso_reply_at left = do
  bits ← bits_at (bitmap reply_numbers) left
  code ← part_at 2 bits
  items ← items_at code.1
  found ← in_55 (reply_with_code code.0 items.0.0 items.0.1)
  end ← nothing_left items.1
  Ok found

-- a reply from its type on, with the kind of call that it answers
unfoldable pub reply_from : Left → Result (CallKind × ReplyData) IsoFault
reply_from left = do
  found ← call_kind_at reply_type left
  reply ← iso_reply_at found.1
  Ok (found.0, reply)

-- the reply
abbrev pub iso_reply_of : List ℕ → Result (CallKind × ReplyData) IsoFault
iso_reply_of bytes = reply_from (unread_message bytes)
