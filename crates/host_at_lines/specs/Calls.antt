-- Which message is which: by its kind and its transaction (this project's own).
use Rattle.std.specs.Prelude.{ℕ, Bool, true, false, ◌&&◌, List, Option, Some, None, Result, Ok, Err}
use Rattle.std.specs.List.{position_from}
use Rattle.auth_message.specs.Message.{message_of}
use Rattle.auth_message.specs.declared.fault.MessageFault.{MessageFault}
use Rattle.auth_message.specs.declared.message.Incoming.{Incoming}
use Rattle.auth_message.specs.declared.message.Incoming.TheVariants.{Request, Present, Reverse}
use Rattle.host_ledger.specs.Key.{same_key}
use Rattle.host_ledger.specs.declared.key.Key.{Key}
use Rattle.issuer_host.specs.Reply.{request_key, present_key, reversal_key}
use Rattle.iso_message.specs.declared.kind.CallKind.{CallKind}
use Rattle.iso_message.specs.declared.kind.CallKind.TheVariants as kind
use Rattle.host_at_lines.specs.declared.call.Call.{Call}

-- the kind of a message, and its transaction
abbrev pub call_of_message : Incoming → Call
call_of_message (Request f) = record { kind = kind.Request; key = request_key f }
call_of_message (Present f) = record { kind = kind.Presentment; key = present_key f }
call_of_message (Reverse f) = record { kind = kind.Reversal; key = reversal_key f }

abbrev pub call_if_read : Result Incoming MessageFault → Option Call
call_if_read (Ok message) = Some (call_of_message message)
call_if_read (Err fault) = None

-- what the bytes are, where they are a message
unfoldable pub call_named : List ℕ → Option Call
call_named bytes = call_if_read (message_of bytes)

abbrev pub are_one_kind : CallKind → CallKind → Bool
are_one_kind kind.Request kind.Request = true
are_one_kind kind.Presentment kind.Presentment = true
are_one_kind kind.Reversal kind.Reversal = true
are_one_kind one other = false

-- it is of this kind and for this transaction
abbrev pub is_of : CallKind → Key → Option Call → Bool
is_of kind key None = false
is_of kind key (Some call) = are_one_kind kind call.kind && same_key key call.key

-- the number, from 1, of the first message of this kind and transaction
abbrev pub call_number : CallKind → Key → List (Option Call) → Option ℕ
call_number kind key calls = position_from (λ call. is_of kind key call) 1 calls
