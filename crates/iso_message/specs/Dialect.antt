-- A message to the host and its reply in a lane's dialect (own).
use Rattle.std.specs.Prelude.{ℕ, Bool, if◌then◌else◌, List, [], Result, Ok, Err}
use Rattle.auth_message.specs.declared.fault.MessageFault.{MessageFault}
use Rattle.auth_message.specs.declared.message.Incoming.{Incoming}
use Rattle.auth_message.specs.declared.message.Incoming.TheVariants.{Request, Present, Reverse}
use Rattle.auth_message.specs.Message.{message_of}
use Rattle.auth_message.specs.Reply as tlv
use Rattle.auth_message.specs.Reply.{ReplyData}
use Rattle.iso_message.specs.declared.kind.CallKind.{CallKind}
use Rattle.iso_message.specs.declared.kind.CallKind.TheVariants as kind
use Rattle.iso_message.specs.Spelling.{call_bytes, iso_reply_bytes}

-- the kind of a call
abbrev pub call_kind_of : Incoming → CallKind
call_kind_of (Request f) = kind.Request
call_kind_of (Present f) = kind.Presentment
call_kind_of (Reverse f) = kind.Reversal

-- the spelling of the call that a message is; none of bytes that are no message
abbrev pub spelled_call : Result Incoming MessageFault → List ℕ
spelled_call (Ok call) = call_bytes call
spelled_call (Err fault) = []

unfoldable pub iso_call : List ℕ → List ℕ
iso_call message = spelled_call (message_of message)

-- the spelling of the reply to a call
abbrev pub spelled_reply : Result Incoming MessageFault → Result ReplyData MessageFault → List ℕ
spelled_reply (Ok call) (Ok reply) = iso_reply_bytes (call_kind_of call) reply
spelled_reply (Ok call) (Err fault) = []
spelled_reply (Err fault) reply = []

unfoldable pub iso_reply : List ℕ → List ℕ → List ℕ
iso_reply message reply = spelled_reply (message_of message) (tlv.reply_of reply)

-- a message as it goes to the host: as it is, or on an iso lane in that spelling
abbrev pub call_in : Bool → List ℕ → List ℕ
call_in iso message = (if iso then iso_call message else message)

-- the reply to a message as it comes from the host
abbrev pub reply_in : Bool → List ℕ → List ℕ → List ℕ
reply_in iso message reply = (if iso then iso_reply message reply else reply)
