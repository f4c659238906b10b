-- What is kept of a list of messages, with one message more.
use Rattle.std.proofs.Common.{◌≡◌, ℕ, List, [], ◌∷◌, ◌++◌, Result, refl, sym, ap, ◌∙◌}
use Rattle.auth_message.specs.Message.{message_of}
use Rattle.auth_message.specs.declared.fault.MessageFault.{MessageFault}
use Rattle.auth_message.specs.declared.message.Incoming.{Incoming}
use Rattle.issuer_host.specs.declared.keys.HostKeys.{HostKeys}
use Rattle.issuer_host.specs.Account.{AccountData}
use Rattle.issuer_host.specs.Books.{Books, no_books}
use Rattle.issuer_host.specs.History.{HostData, HostStands, books_with, books_from, books_of, kept_in, host_reply}
use Rattle.issuer_host.specs.Reply.{reply_to_message, reply_to}

pub books_grow : (keys : HostKeys) (accounts : List AccountData) (books : Books) (messages : List (List ℕ)) (message : List ℕ)
    → books_from keys accounts books (messages ++ message ∷ []) ≡ books_with keys accounts (books_from keys accounts books messages) message
books_grow keys accounts books [] message = refl
books_grow keys accounts books (first ∷ messages) message = books_grow keys accounts (books_with keys accounts books first) messages message

-- the reply from what the host keeps is that of the whole list
pub replied : (host : HostData) (messages : List (List ℕ)) (message : List ℕ) (reading : Result Incoming MessageFault) → message_of message ≡ reading → HostStands host messages
    → reply_to_message host.keys host.accounts host.books message reading ≡ host_reply host.keys host.accounts messages message
unfolding reply_to
replied host messages message reading is stands =
    ap (reply_to_message host.keys host.accounts host.books message) (sym is) ∙ ap (λ b. reply_to_message host.keys host.accounts b message (message_of message)) stands.books

-- the host has had one message more
pub stands_after : (host after : HostData) (messages : List (List ℕ)) (message : List ℕ) (reading : Result Incoming MessageFault) → message_of message ≡ reading → HostStands host messages → after.keys ≡ host.keys → after.accounts ≡ host.accounts
    → after.books ≡ kept_in host.keys host.accounts host.books message reading → HostStands after (messages ++ message ∷ [])
unfolding books_with
stands_after host after messages message reading is stands keys accounts books = record {
  books =
      books ∙ ap (kept_in host.keys host.accounts host.books message) (sym is)
      ∙ ap (λ b. kept_in host.keys host.accounts b message (message_of message)) stands.books
      ∙ sym (books_grow host.keys host.accounts no_books messages message)
      ∙ ap (λ k. books_of k host.accounts (messages ++ message ∷ [])) (sym keys) ∙ ap (λ a. books_of after.keys a (messages ++ message ∷ [])) (sym accounts);
}
