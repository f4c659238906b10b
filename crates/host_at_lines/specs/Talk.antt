-- The talk of an issuer's host: what it answers to each line, by the messages that came to it (this project's own).
use Rattle.std.specs.Prelude.{◌≡◌, ℕ, Bool, true, false, List, [], ◌∷◌, ◌++◌, map, Option, Some, None, Result, Ok, Err}
use Rattle.auth_message.specs.Whole.{message_bytes}
use Rattle.auth_message.specs.declared.message.Incoming.{Incoming}
use Rattle.issuer_host.specs.Account.{AccountData}
use Rattle.issuer_host.specs.History.{HostData, HostStands, balance_after, books_of, host_reply}
use Rattle.issuer_host.specs.declared.keys.HostKeys.{HostKeys}
use Rattle.iso_message.specs.Dialect.{reply_in}
use Rattle.iso_message.specs.Reading.{call_of}
use Rattle.iso_message.specs.declared.fault.IsoFault.{IsoFault}
use Rattle.line_talk.specs.Turns.{Opening, Turn}
use Rattle.line_talk.specs.declared.party.Onward.TheVariants.{Rests}
use Rattle.host_at_lines.specs.Because.{because_of}
use Rattle.host_at_lines.specs.Calls.{call_named}
use Rattle.host_at_lines.specs.Told.{accounts_text, balance_text, because_text, unasked_text, reply_text, unread_text}
use Rattle.host_at_lines.specs.Words.{host_word}
use Rattle.host_at_lines.specs.declared.because.Because.{Because as Why}
use Rattle.host_at_lines.specs.declared.call.Call.{Call}
use Rattle.host_at_lines.specs.declared.word.Word.{Word}
use Rattle.host_at_lines.specs.declared.word.Word.TheVariants.{Message, Balance, Accounts, Because, Other}

-- the messages that came to the host: none, or these and a last one
pub data HeardMessages : Type 0 where
  Nothing : HeardMessages
  Last : (before : List (List ℕ)) (message : List ℕ) → HeardMessages

abbrev pub messages_of : HeardMessages → List (List ℕ)
messages_of Nothing = []
messages_of (Last before message) = before ++ message ∷ []

-- why the reply to the last one is as it is
abbrev pub because_at : HostKeys → List AccountData → HeardMessages → Option Why
because_at keys accounts Nothing = None
because_at keys accounts (Last before message) = Some (because_of keys accounts before message)

-- an answer, and the messages behind it
pub record HostTurn : Type 0 where
  pub answer : List ℕ
  pub after : HeardMessages

-- a message comes to the host, and its reply is told in its spelling
abbrev pub message_turn : HostKeys → List AccountData → HeardMessages → Bool → List ℕ → HostTurn
message_turn keys accounts heard iso message = record {
  answer = reply_text (reply_in iso message (host_reply keys accounts (messages_of heard) message));
  after = Last (messages_of heard) message;
}

-- in the style of ISO 8583 the message comes that the bytes are read as; none comes of others
abbrev pub read_turn : HostKeys → List AccountData → HeardMessages → Result Incoming IsoFault → HostTurn
read_turn keys accounts heard (Ok call) = message_turn keys accounts heard true (message_bytes call)
read_turn keys accounts heard (Err fault) = record { answer = unread_text fault; after = heard }

abbrev pub call_turn : HostKeys → List AccountData → HeardMessages → Bool → List ℕ → HostTurn
call_turn keys accounts heard false bytes = message_turn keys accounts heard false bytes
call_turn keys accounts heard true bytes = read_turn keys accounts heard (call_of bytes)

-- by what the line asks
abbrev pub host_turn_by : HostKeys → List AccountData → HeardMessages → Word → HostTurn
host_turn_by keys accounts heard (Message iso bytes) = call_turn keys accounts heard iso bytes.items
host_turn_by keys accounts heard (Balance pan) = record { answer = balance_text pan (balance_after keys accounts (messages_of heard) pan); after = heard }
host_turn_by keys accounts heard Accounts = record { answer = accounts_text accounts (books_of keys accounts (messages_of heard)); after = heard }
host_turn_by keys accounts heard Because = record { answer = because_text (because_at keys accounts heard); after = heard }
host_turn_by keys accounts heard Other = record { answer = unasked_text; after = heard }

-- the answer to a line
unfoldable pub host_turn : HostKeys → List AccountData → HeardMessages → List ℕ → HostTurn
host_turn keys accounts heard line = host_turn_by keys accounts heard (host_word line)

-- the host has had these messages; beside it stands what each was, and why the last reply is as it is
pub record Stands (host : HostData) (accounts : List AccountData) (calls : List (Option Call)) (because : Option Why) (heard : HeardMessages) : Type 0 where
  pub host_is : HostStands host (messages_of heard)
  pub accounts_are : accounts ≡ host.accounts
  pub calls_are : calls ≡ map call_named (messages_of heard)
  pub because_is : because ≡ because_at host.keys host.accounts heard

-- this was answered, and the host stands where the turn leaves it
pub record IsHostTurn (host : HostData) (accounts : List AccountData) (calls : List (Option Call)) (because : Option Why) (text : List ℕ) (turn : HostTurn) : Type 0 where
  pub answer_is : text ≡ turn.answer
  pub stands : Stands host accounts calls because turn.after

-- lines that were answered one after the other; behind each another may follow
pub data HostTalked (keys : HostKeys) (accounts : List AccountData) : List Turn → HeardMessages → Type 0 where
  begins : HostTalked keys accounts [] Nothing
  goes : (turns : List Turn) (heard : HeardMessages) (line : List ℕ) → HostTalked keys accounts turns heard
      → HostTalked keys accounts (turns ++ record { line = line; answer = (host_turn keys accounts heard line).answer; onward = Rests } ∷ [])
      (host_turn keys accounts heard line).after

-- lines and answers are a talk of a host with these keys and accounts, from its beginning
abbrev pub IsHostTalk : HostKeys → List AccountData → List Turn → Type 0
IsHostTalk keys accounts turns = (heard : HeardMessages) × HostTalked keys accounts turns heard

-- a host that has answered these lines so
pub record HostHasAnswered (host : HostData) (accounts : List AccountData) (calls : List (Option Call)) (because : Option Why) (turns : List Turn) : Type 0 where
  pub heard : HeardMessages
  pub talked : HostTalked host.keys host.accounts turns heard
  pub stands : Stands host accounts calls because heard

-- it says nothing before the first line
abbrev pub host_opening : Opening
host_opening = record { text = []; onward = Rests }
