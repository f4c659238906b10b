-- Messages and replies in their one spelling, which is read back (own).
use Rattle.std.specs.Prelude.{◌≡◌, ℕ, ◌≤◌, IsTrue, List, length, Ok}
use Rattle.std.specs.List.{list_all}
use Rattle.emv_dict.specs.Settings.{is_code}
use Rattle.auth_message.specs.declared.message.Incoming.{Incoming}
use Rattle.auth_message.specs.declared.message.Incoming.TheVariants.{Request, Present, Reverse}
use Rattle.auth_message.specs.Accepted.{AreDigitBytes, IsRequest, IsPresent, IsReversal}
use Rattle.auth_message.specs.Message.{message_of}
use Rattle.auth_message.specs.Reply.{ReplyData, reply_of, names_script}
use Rattle.auth_message.specs.Spelling.{spelled, request_bytes, present_bytes, reversal_bytes, reply_bytes}

abbrev pub message_bytes : Incoming → List ℕ
message_bytes (Request f) = request_bytes f
message_bytes (Present f) = present_bytes f
message_bytes (Reverse f) = reversal_bytes f

-- a message whose fields reading accepts
abbrev pub IsAccepted : Incoming → Type 0
IsAccepted (Request f) = IsRequest f
IsAccepted (Present f) = IsPresent f
IsAccepted (Reverse f) = IsReversal f

-- the currency is a code of three digits, and the transaction type two digits
pub record IsCoded (t5f2a t9c : List ℕ) : Type 0 where
  pub currency : IsTrue (is_code t5f2a)
  pub transaction_type : AreDigitBytes t9c

-- a message's currency, and its transaction type where it has one, are written as codes
abbrev pub HasCodes : Incoming → Type 0
HasCodes (Request f) = IsCoded f.paid.t5f2a f.paid.t9c
HasCodes (Present f) = IsCoded f.paid.t5f2a f.paid.t9c
HasCodes (Reverse f) = IsTrue (is_code f.t5f2a)

-- the bytes are a message of a terminal, as it is written
pub record IsMessage (bytes : List ℕ) : Type 0 where
  pub message : Incoming
  pub read : message_of bytes ≡ Ok message
  pub exact : bytes ≡ message_bytes message
  pub accepted : IsAccepted message
  pub codes : HasCodes message

-- at most 8 scripts of at most 1,024 bytes together, each spelled as an item is written, one behind the
-- other (EMV 4.3 Book 3 section 10.10)
pub record AreSpelledScripts (bytes : List ℕ) : Type 0 where
  pub fields : List (ℕ × List ℕ)
  pub templates : IsTrue (list_all (λ field. names_script field.0) fields)
  pub few : length fields ≤ 8
  pub short : length bytes ≤ 1024
  pub exact : bytes ≡ spelled fields

-- the bytes are a reply, as it is written, with such scripts
pub record IsReply (bytes : List ℕ) : Type 0 where
  pub reply : ReplyData
  pub read : reply_of bytes ≡ Ok reply
  pub exact : bytes ≡ reply_bytes reply.code reply.auth reply.scripts
  pub scripts : AreSpelledScripts reply.scripts
