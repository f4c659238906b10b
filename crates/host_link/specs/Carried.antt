-- What stands on a wire, and the message or reply that it is (own).
use Rattle.std.specs.Prelude.{◌≡◌, ℕ, Bool, true, false, List, Ok}
use Rattle.auth_message.specs.declared.message.Incoming.{Incoming}
use Rattle.auth_message.specs.Reply.{ReplyData}
use Rattle.auth_message.specs.Spelling.{reply_bytes}
use Rattle.auth_message.specs.Whole.{message_bytes}
use Rattle.iso_message.specs.declared.kind.CallKind.{CallKind}
use Rattle.iso_message.specs.Reading.{call_of}
use Rattle.iso_message.specs.Reply.{iso_reply_of}

-- bytes that are read as the call that a message is
pub record IsCallOf (bytes message : List ℕ) : Type 0 where
  pub call : Incoming
  pub read : call_of bytes ≡ Ok call
  pub same : message ≡ message_bytes call

-- what stands on a wire is read as this message, in the dialect or as it is
abbrev pub CarriesCall : Bool → List ℕ → List ℕ → Type 0
CarriesCall false bytes message = bytes ≡ message
CarriesCall true bytes message = IsCallOf bytes message

-- bytes that are read as a reply
pub record IsReplyOf (bytes reply : List ℕ) : Type 0 where
  pub kind : CallKind
  pub found : ReplyData
  pub read : iso_reply_of bytes ≡ Ok (kind, found)
  pub same : reply ≡ reply_bytes found.code found.auth found.scripts

-- what stands on a wire is read as this reply, in the dialect or as it is
abbrev pub CarriesReply : Bool → List ℕ → List ℕ → Type 0
CarriesReply false bytes reply = bytes ≡ reply
CarriesReply true bytes reply = IsReplyOf bytes reply
