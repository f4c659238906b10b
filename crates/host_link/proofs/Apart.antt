-- Bytes on a wire are those of one message or of one reply.
use Rattle.std.proofs.Common.{◌≡◌, ℕ, Bool, true, false, List, [], ◌++◌, get_or, Option, Result, Ok, Err, sym, ap, ◌∙◌, arith}
use Rattle.auth_message.specs.Message.{message_of}
use Rattle.auth_message.specs.Reply.{ReplyData, reply_of}
use Rattle.auth_message.specs.Spelling.{request_bytes, present_bytes, reversal_bytes, reply_bytes}
use Rattle.auth_message.specs.Whole.{message_bytes, IsMessage, IsReply}
use Rattle.auth_message.specs.declared.fault.MessageFault.{MessageFault}
use Rattle.auth_message.specs.declared.message.Incoming.{Incoming}
use Rattle.auth_message.specs.declared.message.Incoming.TheVariants.{Request, Present, Reverse}
use Rattle.ber_tlv.specs.Written.{written}
use Rattle.host_link.specs.Carried.{CarriesCall, CarriesReply}
use Rattle.iso_message.proofs.Calls.{request_split, present_split, reversal_split, request_rest, present_rest, reversal_rest}
use Rattle.iso_message.proofs.Replies.{reply_split, reply_rest}
use Rattle.iso_message.specs.Dialect.{call_kind_of, call_in, iso_call, iso_reply, reply_in, spelled_reply}
use Rattle.iso_message.specs.Layout.{call_type, reply_type}
use Rattle.iso_message.specs.Reading.{call_of}
use Rattle.iso_message.specs.Reply.{iso_reply_of}
use Rattle.iso_message.specs.Spelling.{call_bytes}
use Rattle.iso_message.specs.declared.fault.IsoFault.{IsoFault}
use Rattle.iso_message.specs.declared.kind.CallKind.{CallKind}
use Rattle.iso_message.specs.declared.kind.CallKind.TheVariants as kind

-- ---- one message, one reply

same_call : (one other : Incoming) (read : Result Incoming IsoFault) → read ≡ Ok one → read ≡ Ok other → one ≡ other
same_call one other read first second = cc

pub one_message : (iso : Bool) (bytes one other : List ℕ) → CarriesCall iso bytes one → CarriesCall iso bytes other → one ≡ other
one_message false bytes one other first second = sym first ∙ second
one_message true bytes one other first second =
    first.same ∙ ap message_bytes (same_call first.call second.call (call_of bytes) first.read second.read) ∙ sym second.same

same_reply : (one_kind other_kind : CallKind) (one other : ReplyData) (read : Result (CallKind × ReplyData) IsoFault) → read ≡ Ok (one_kind, one) → read ≡ Ok (other_kind, other) → one ≡ other
same_reply one_kind other_kind one other read first second =
    let pair : (one_kind, one) ≡ (other_kind, other) = cc in
    ap (λ (p : CallKind × ReplyData). p.1) pair

pub one_reply : (iso : Bool) (bytes one other : List ℕ) → CarriesReply iso bytes one → CarriesReply iso bytes other → one ≡ other
one_reply false bytes one other first second = sym first ∙ second
one_reply true bytes one other first second =
    first.same ∙ ap (λ (r : ReplyData). reply_bytes r.code r.auth r.scripts) (same_reply first.kind second.kind first.found second.found (iso_reply_of bytes) first.read second.read) ∙ sym second.same

-- ---- a message is no reply

types_apart : (of to : CallKind) (rest other : List ℕ) → call_type of ++ rest ≡ reply_type to ++ other → ⊥
types_apart kind.Request kind.Request rest other same = let third : ◌≡◌ {A = ℕ} 48 49 = ap (λ (xs : List ℕ). get_or xs 2 0) same in absurd (omega arith)
types_apart kind.Request kind.Presentment rest other same = let second : ◌≡◌ {A = ℕ} 49 50 = ap (λ (xs : List ℕ). get_or xs 1 0) same in absurd (omega arith)
types_apart kind.Request kind.Reversal rest other same = let second : ◌≡◌ {A = ℕ} 49 52 = ap (λ (xs : List ℕ). get_or xs 1 0) same in absurd (omega arith)
types_apart kind.Presentment kind.Request rest other same = let second : ◌≡◌ {A = ℕ} 50 49 = ap (λ (xs : List ℕ). get_or xs 1 0) same in absurd (omega arith)
types_apart kind.Presentment kind.Presentment rest other same = let third : ◌≡◌ {A = ℕ} 50 51 = ap (λ (xs : List ℕ). get_or xs 2 0) same in absurd (omega arith)
types_apart kind.Presentment kind.Reversal rest other same = let second : ◌≡◌ {A = ℕ} 50 52 = ap (λ (xs : List ℕ). get_or xs 1 0) same in absurd (omega arith)
types_apart kind.Reversal kind.Request rest other same = let second : ◌≡◌ {A = ℕ} 52 49 = ap (λ (xs : List ℕ). get_or xs 1 0) same in absurd (omega arith)
types_apart kind.Reversal kind.Presentment rest other same = let second : ◌≡◌ {A = ℕ} 52 50 = ap (λ (xs : List ℕ). get_or xs 1 0) same in absurd (omega arith)
types_apart kind.Reversal kind.Reversal rest other same = let third : ◌≡◌ {A = ℕ} 48 49 = ap (λ (xs : List ℕ). get_or xs 2 0) same in absurd (omega arith)

-- what a call is behind its type
call_rest : Incoming → List ℕ
call_rest (Request f) = request_rest f
call_rest (Present f) = present_rest f
call_rest (Reverse f) = reversal_rest f

call_split : (call : Incoming) → call_bytes call ≡ call_type (call_kind_of call) ++ call_rest call
unfolding call_rest
call_split (Request f) = request_split f
call_split (Present f) = present_split f
call_split (Reverse f) = reversal_split f

no_end : (of : CallKind) (rest : List ℕ) → call_type of ++ rest ≡ [] → ⊥
no_end kind.Request rest same = absurd (cc same)
no_end kind.Presentment rest same = absurd (cc same)
no_end kind.Reversal rest same = absurd (cc same)

no_iso_reply : (call : Incoming) (message : Result Incoming MessageFault) (reply : Result ReplyData MessageFault) → call_bytes call ≡ spelled_reply message reply → ⊥
no_iso_reply call (Err fault) reply same = no_end (call_kind_of call) (call_rest call) (sym (call_split call) ∙ same)
no_iso_reply call (Ok other) (Err fault) same = no_end (call_kind_of call) (call_rest call) (sym (call_split call) ∙ same)
no_iso_reply call (Ok other) (Ok reply) same =
    types_apart (call_kind_of call) (call_kind_of other) (call_rest call) (reply_rest reply) (sym (call_split call) ∙ same ∙ reply_split (call_kind_of other) reply)

-- the tag of a message is no reply's
no_tlv_reply : (call : Incoming) (code : List ℕ) (auth : Option (List ℕ)) (scripts : List ℕ) → message_bytes call ≡ reply_bytes code auth scripts → ⊥
unfolding request_bytes present_bytes reversal_bytes reply_bytes written
no_tlv_reply (Request f) code auth scripts same = let tag : ◌≡◌ {A = ℕ} 0xE1 0xE2 = ap (λ (xs : List ℕ). get_or xs 0 0) same in absurd (omega arith)
no_tlv_reply (Present f) code auth scripts same = let tag : ◌≡◌ {A = ℕ} 0xE3 0xE2 = ap (λ (xs : List ℕ). get_or xs 0 0) same in absurd (omega arith)
no_tlv_reply (Reverse f) code auth scripts same = let tag : ◌≡◌ {A = ℕ} 0xE4 0xE2 = ap (λ (xs : List ℕ). get_or xs 0 0) same in absurd (omega arith)

pub no_reply : (iso : Bool) (one message reply : List ℕ) → IsMessage one → IsReply reply → call_in iso one ≡ reply_in iso message reply → ⊥
unfolding iso_call iso_reply
no_reply false one message reply is answers same = no_tlv_reply is.message answers.reply.code answers.reply.auth answers.reply.scripts (sym is.exact ∙ same ∙ answers.exact)
no_reply true one message reply is answers same =
    let read = is.read in
    no_iso_reply is.message (message_of message) (reply_of reply) (rw read at same)
