-- The host from the whole list of messages (own): what was kept, the reply to the next message, and the
-- balances.
use Rattle.std.specs.Option.{is_none}
use Rattle.std.specs.Prelude.{◌≡◌, ℕ, ℤ, Bool, false, List, [], ◌∷◌, ◌++◌, Option, Some, None, Result, Ok, Err}
use Rattle.auth_message.specs.Message.{message_of}
use Rattle.auth_message.specs.declared.fault.MessageFault.{MessageFault}
use Rattle.auth_message.specs.declared.message.Incoming.{Incoming}
use Rattle.auth_message.specs.declared.message.Incoming.TheVariants.{Request, Present, Reverse}
use Rattle.issuer_host.specs.declared.keys.HostKeys.{HostKeys}
use Rattle.issuer_host.specs.Account.{AccountData}
use Rattle.issuer_host.specs.Balance.{balance_in}
use Rattle.issuer_host.specs.Books.{KeptCall, Books, no_books, kept_at}
use Rattle.issuer_host.specs.Reply.{request_key, present_key, reversal_key, new_request, new_present, new_reversal, reply_to}

-- the kept messages with a new one, where none of its transaction was kept
abbrev pub with_first : Option KeptCall → KeptCall → List KeptCall → List KeptCall
with_first None new messages = messages ++ new ∷ []
with_first (Some kept) new messages = messages

abbrev pub kept_in : HostKeys → List AccountData → Books → List ℕ → Result Incoming MessageFault → Books
kept_in keys accounts books message (Err fault) = books
kept_in keys accounts books message (Ok (Request f)) =
    record books { requests = with_first (kept_at (request_key f) books.requests) (new_request keys accounts books message f) books.requests }
kept_in keys accounts books message (Ok (Present f)) =
    record books { presentments = with_first (kept_at (present_key f) books.presentments) (new_present keys accounts books message f) books.presentments }
kept_in keys accounts books message (Ok (Reverse f)) =
    record books { reversals = with_first (kept_at (reversal_key f) books.reversals) (new_reversal accounts books message f) books.reversals }

-- the books with one message more: a message with a fault and one of a kind and transaction that was kept
-- change nothing
unfoldable pub books_with : HostKeys → List AccountData → Books → List ℕ → Books
books_with keys accounts books message = kept_in keys accounts books message (message_of message)

abbrev pub books_from : HostKeys → List AccountData → Books → List (List ℕ) → Books
books_from keys accounts books [] = books
books_from keys accounts books (message ∷ messages) = books_from keys accounts (books_with keys accounts books message) messages

-- what is kept of a list of messages: the first one of each kind and transaction that has no fault, with
-- its reply to the messages before it
abbrev pub books_of : HostKeys → List AccountData → List (List ℕ) → Books
books_of keys accounts messages = books_from keys accounts no_books messages

-- the reply to a message that comes behind these
abbrev pub host_reply : HostKeys → List AccountData → List (List ℕ) → List ℕ → List ℕ
host_reply keys accounts messages message = reply_to keys accounts (books_of keys accounts messages) message

-- the balance of an account number behind these messages, none where no account has it
abbrev pub balance_after : HostKeys → List AccountData → List (List ℕ) → List ℕ → Option ℤ
balance_after keys accounts messages pan = balance_in accounts (books_of keys accounts messages) pan

-- what a contract sees of a host
pub record HostData : Type 0 where
  pub keys : HostKeys
  pub accounts : List AccountData
  pub books : Books

-- the host has had these messages
pub record HostStands (host : HostData) (messages : List (List ℕ)) : Type 0 where
  pub books : host.books ≡ books_of host.keys host.accounts messages

-- no message of this kind and transaction was kept
abbrev pub is_new_message : Books → Result Incoming MessageFault → Bool
is_new_message books (Err fault) = false
is_new_message books (Ok (Request f)) = is_none (kept_at (request_key f) books.requests)
is_new_message books (Ok (Present f)) = is_none (kept_at (present_key f) books.presentments)
is_new_message books (Ok (Reverse f)) = is_none (kept_at (reversal_key f) books.reversals)
