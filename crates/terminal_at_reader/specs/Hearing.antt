-- The entries of a dialogue as they stand on a lane's lines, where messages have its dialect (this project's own).
use Rattle.std.specs.Prelude.{ℕ, Bool, List, [], ◌∷◌, ◌++◌, codes, Option, Some, None, Result, Ok, Err, if◌then◌else◌}
use Rattle.auth_message.specs.Reply.{ReplyData, reply_of}
use Rattle.auth_message.specs.Spelling.{reply_bytes}
use Rattle.auth_message.specs.declared.fault.MessageFault.{MessageFault}
use Rattle.host_link.specs.FaultWords.{iso_fault_words, message_fault_words}
use Rattle.iso_message.specs.Dialect.{call_in}
use Rattle.iso_message.specs.Reply.{iso_reply_of}
use Rattle.iso_message.specs.declared.fault.IsoFault.{IsoFault}
use Rattle.iso_message.specs.declared.fault.IsoFault.TheVariants as iso_fault
use Rattle.iso_message.specs.declared.kind.CallKind.{CallKind}
use Rattle.iso_message.specs.declared.kind.CallKind.TheVariants as kind
use Rattle.trace_check.specs.declared.entry.Entry.{Entry}
use Rattle.trace_check.specs.declared.entry.Entry.TheVariants.{ToCard, CardSaid, CardGone, ToHost, HostSaid, HostSilent, End}
use Rattle.terminal_at_reader.specs.declared.fault.ReplyFault.{ReplyFault}
use Rattle.terminal_at_reader.specs.declared.fault.ReplyFault.TheVariants.{Message, Iso}

-- what is asked, as its line has it: a message to the host in the dialect
abbrev pub spoken : Bool → Entry → Entry
spoken iso (ToCard command) = ToCard command
spoken iso (CardSaid answer) = CardSaid answer
spoken iso CardGone = CardGone
spoken iso (ToHost message) = ToHost (call_in iso message)
spoken iso (HostSaid reply) = HostSaid reply
spoken iso HostSilent = HostSilent
spoken iso (End text) = End text

-- a reply in the dialect, which has to be one to a request: one that can't be read is none
abbrev pub heard_of_kind : CallKind → ReplyData → Entry
heard_of_kind kind.Request reply = HostSaid (reply_bytes reply.code reply.auth reply.scripts)
heard_of_kind kind.Presentment reply = HostSilent
heard_of_kind kind.Reversal reply = HostSilent

abbrev pub heard_by : Result (CallKind × ReplyData) IsoFault → Entry
heard_by (Ok found) = heard_of_kind found.0 found.1
heard_by (Err fault) = HostSilent

-- what a line says, as the dialogue hears it
abbrev pub understood : Bool → Entry → Entry
understood iso (ToCard command) = ToCard command
understood iso (CardSaid answer) = CardSaid answer
understood iso CardGone = CardGone
understood iso (ToHost message) = ToHost message
understood iso (HostSaid reply) = (if iso then heard_by (iso_reply_of reply) else HostSaid reply)
understood iso HostSilent = HostSilent
understood iso (End text) = End text

-- why a reply can't be read, where it can't
abbrev pub fault_of_kind : CallKind → Option ReplyFault
fault_of_kind kind.Request = None
fault_of_kind kind.Presentment = Some (Iso iso_fault.WrongType)
fault_of_kind kind.Reversal = Some (Iso iso_fault.WrongType)

abbrev pub iso_fault_in : Result (CallKind × ReplyData) IsoFault → Option ReplyFault
iso_fault_in (Ok found) = fault_of_kind found.0
iso_fault_in (Err fault) = Some (Iso fault)

abbrev pub message_fault_in : Result ReplyData MessageFault → Option ReplyFault
message_fault_in (Ok reply) = None
message_fault_in (Err fault) = Some (Message fault)

abbrev pub unread : Bool → Entry → Option ReplyFault
unread iso (ToCard command) = None
unread iso (CardSaid answer) = None
unread iso CardGone = None
unread iso (ToHost message) = None
unread iso (HostSaid reply) = (if iso then iso_fault_in (iso_reply_of reply) else message_fault_in (reply_of reply))
unread iso HostSilent = None
unread iso (End text) = None

-- a fault in words
abbrev pub reply_fault_words : ReplyFault → List ℕ
reply_fault_words (Message fault) = message_fault_words fault
reply_fault_words (Iso fault) = iso_fault_words fault

-- the line that tells why a reply can't be read, and nothing of one that can
abbrev pub fault_line : Option ReplyFault → List ℕ
fault_line None = []
fault_line (Some fault) = (codes "? reply " ++ reply_fault_words fault) ++ 10 ∷ []
