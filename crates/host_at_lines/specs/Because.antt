-- Why the host's reply to a message is as it is, with the number of the earlier message that the reason speaks of (this
-- project's own).
use Rattle.std.specs.Prelude.{ℕ, Bool, true, false, not, List, [], ◌∷◌, map, Option, Some, None, Result, Ok, Err}
use Rattle.auth_message.specs.Message.{message_of}
use Rattle.auth_message.specs.Reply.{ReplyData, reply_of}
use Rattle.auth_message.specs.declared.fault.MessageFault.{MessageFault}
use Rattle.host_ledger.specs.declared.key.Key.{Key}
use Rattle.issuer_host.specs.Account.{AccountData}
use Rattle.issuer_host.specs.History.{books_of, host_reply}
use Rattle.issuer_host.specs.Reasons.{reason_in}
use Rattle.issuer_host.specs.declared.keys.HostKeys.{HostKeys}
use Rattle.issuer_host.specs.declared.reason.Reason.{Reason}
use Rattle.issuer_host.specs.declared.reason.Reason.TheVariants.{Repeat, OtherBytes, Reversed, Presented}
use Rattle.iso_message.specs.declared.kind.CallKind.{CallKind}
use Rattle.iso_message.specs.declared.kind.CallKind.TheVariants as kind
use Rattle.host_at_lines.specs.Calls.{call_named, call_number}
use Rattle.host_at_lines.specs.declared.because.Because.{Because}
use Rattle.host_at_lines.specs.declared.call.Call.{Call}

-- of which kind the earlier message is that a reason speaks of, where the reply is to a message of this kind
abbrev pub kind_meant : CallKind → Reason → Option CallKind
kind_meant own Repeat = Some own
kind_meant own OtherBytes = Some own
kind_meant own Reversed = Some kind.Reversal
kind_meant own Presented = Some kind.Presentment
kind_meant own other = None

abbrev pub number_if : List (Option Call) → Key → Option CallKind → Option ℕ
number_if calls key None = None
number_if calls key (Some kind) = call_number kind key calls

-- the number of that message
abbrev pub earlier_number : List (Option Call) → Reason → Option Call → Option ℕ
earlier_number calls reason None = None
earlier_number calls reason (Some call) = number_if calls call.key (kind_meant call.kind reason)

abbrev pub is_empty : List ℕ → Bool
is_empty [] = true
is_empty (byte ∷ bytes) = false

abbrev pub some_scripts : Result ReplyData MessageFault → Bool
some_scripts (Ok reply) = not (is_empty reply.scripts)
some_scripts (Err fault) = false

-- the reply carries scripts
abbrev pub has_scripts : List ℕ → Bool
has_scripts reply = some_scripts (reply_of reply)

-- it is the first one that carries them: a reply that comes again isn't
abbrev pub carries_scripts : List ℕ → Reason → Bool
carries_scripts reply Repeat = false
carries_scripts reply other = has_scripts reply

abbrev pub because_by : List (Option Call) → Option Call → Reason → List ℕ → Because
because_by calls call reason reply = record {
  reason = reason;
  earlier = earlier_number calls reason call;
  scripts = carries_scripts reply reason;
}

-- why the reply to a message is as it is that comes behind these
unfoldable pub because_of : HostKeys → List AccountData → List (List ℕ) → List ℕ → Because
because_of keys accounts before message =
    because_by (map call_named before) (call_named message) (reason_in keys accounts (books_of keys accounts before) message (message_of message))
    (host_reply keys accounts before message)
