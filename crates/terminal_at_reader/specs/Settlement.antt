-- The lines of a settlement: a message that was captured, and the host's reply to it (this project's own).
use Rattle.std.specs.Prelude.{ℕ, Bool, true, false, List, [], ◌∷◌, ◌++◌, codes, decimal, Option, Some, None, Result, Ok, Err, if◌then◌else◌}
use Rattle.auth_message.specs.Message.{message_of}
use Rattle.auth_message.specs.Reply.{ReplyData, reply_of}
use Rattle.auth_message.specs.declared.fault.MessageFault.{MessageFault}
use Rattle.auth_message.specs.declared.message.Incoming.{Incoming}
use Rattle.iso_message.specs.Dialect.{call_in, call_kind_of}
use Rattle.iso_message.specs.Reply.{iso_reply_of}
use Rattle.iso_message.specs.declared.fault.IsoFault.{IsoFault}
use Rattle.iso_message.specs.declared.fault.IsoFault.TheVariants as iso_fault
use Rattle.iso_message.specs.declared.kind.CallKind.{CallKind}
use Rattle.iso_message.specs.declared.kind.CallKind.TheVariants.{Request, Presentment, Reversal}
use Rattle.report_text.specs.Pieces.{hex_or_dash}
use Rattle.trace_check.specs.Texts.{marked_rest, bytes_shown, if_behind}
use Rattle.terminal_at_reader.specs.Hearing.{message_fault_in}
use Rattle.terminal_at_reader.specs.declared.fault.ReplyFault.{ReplyFault}
use Rattle.terminal_at_reader.specs.declared.fault.ReplyFault.TheVariants.{Iso}

-- the line of a message in the dialect, and the one behind the last of so many
abbrev pub settlement_line : Bool → List ℕ → List ℕ
settlement_line iso message = (codes "settle > " ++ hex_or_dash (call_in iso message)) ++ 10 ∷ []

abbrev pub settled_line : ℕ → List ℕ
settled_line count = (codes "settled " ++ decimal count) ++ 10 ∷ []

-- the reply that a line says, of at most 2,048 bytes
abbrev pub settlement_reply : List ℕ → Option (List ℕ)
settlement_reply line = if_behind (marked_rest (codes "settle < ") line) (bytes_shown 2048) None

abbrev pub same_kind : CallKind → CallKind → Bool
same_kind Request Request = true
same_kind Presentment Presentment = true
same_kind Reversal Reversal = true
same_kind sent answered = false

-- in the style of ISO 8583 a reply has to be one to a message of this kind
abbrev pub fault_of_kinds : CallKind → CallKind → Option ReplyFault
fault_of_kinds sent answered = if same_kind sent answered then None else Some (Iso iso_fault.WrongType)

abbrev pub iso_fault_to : Result Incoming MessageFault → Result (CallKind × ReplyData) IsoFault → Option ReplyFault
iso_fault_to (Ok call) (Ok found) = fault_of_kinds (call_kind_of call) found.0
iso_fault_to (Err unread) (Ok found) = None
iso_fault_to message (Err fault) = Some (Iso fault)

-- why the reply to a message can't be read, where it can't
abbrev pub fault_in_reply : Bool → List ℕ → List ℕ → Option ReplyFault
fault_in_reply iso message reply = (if iso then iso_fault_to (message_of message) (iso_reply_of reply) else message_fault_in (reply_of reply))

abbrev pub settlement_unread : Bool → Option (List ℕ) → List ℕ → Option ReplyFault
settlement_unread iso None reply = None
settlement_unread iso (Some message) reply = fault_in_reply iso message reply
