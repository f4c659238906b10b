-- A message that the host has answered is kept, or has a fault, so that it takes no memory when it comes again.
use Rattle.std.proofs.Common.{◌≡◌, ℕ, Bool, false, cond, List, [], ◌∷◌, ◌++◌, Option, Some, None, Result, Ok, Err, refl, ap, ◌∙◌}
use Rattle.std.specs.Option.{is_none}
use Rattle.auth_message.specs.Message.{message_of}
use Rattle.auth_message.specs.declared.fault.MessageFault.{MessageFault}
use Rattle.auth_message.specs.declared.message.Incoming.{Incoming}
use Rattle.auth_message.specs.declared.message.Incoming.TheVariants.{Request, Present, Reverse}
use Rattle.host_ledger.proofs.Keys.{own_key}
use Rattle.issuer_host.specs.Account.{AccountData}
use Rattle.issuer_host.specs.Books.{KeptCall, Books, no_books, kept_at}
use Rattle.issuer_host.specs.History.{HostData, HostStands, with_first, kept_in, books_with, books_of, is_new_message}
use Rattle.issuer_host.specs.Reply.{new_request, new_present, new_reversal}
use Rattle.issuer_host.specs.declared.keys.HostKeys.{HostKeys}
use Rattle.issuer_host.proofs.Histories.{books_grow}
use Rattle.issuer_host.proofs.Totals.{last_or_found, kept_last}

-- it is kept from then on
is_kept : (new : KeptCall) (messages : List KeptCall) → is_none (kept_at new.key (with_first (kept_at new.key messages) new messages)) ≡ false
is_kept new messages = by (kept_at new.key messages) refl
  where
    by : (r : Option KeptCall) → kept_at new.key messages ≡ r → is_none (kept_at new.key (with_first r new messages)) ≡ false
    by (Some kept) is = ap is_none is
    by None is =
        ap is_none (kept_last new.key messages new ∙ ap (last_or_found new.key new) is)
        ∙ ap (λ (b : Bool). is_none (cond b (Some new) None)) (own_key new.key)

kept_again : (keys : HostKeys) (accounts : List AccountData) (books : Books) (message : List ℕ) (reading : Result Incoming MessageFault)
    → is_new_message (kept_in keys accounts books message reading) reading ≡ false
kept_again keys accounts books message (Err fault) = refl
kept_again keys accounts books message (Ok (Request f)) = is_kept (new_request keys accounts books message f) books.requests
kept_again keys accounts books message (Ok (Present f)) = is_kept (new_present keys accounts books message f) books.presentments
kept_again keys accounts books message (Ok (Reverse f)) = is_kept (new_reversal accounts books message f) books.reversals

pub not_new : (host : HostData) (messages : List (List ℕ)) (message : List ℕ) → HostStands host (messages ++ message ∷ [])
    → is_new_message host.books (message_of message) ≡ false
unfolding books_with
not_new host messages message stands =
    ap (λ (b : Books). is_new_message b (message_of message)) (stands.books ∙ books_grow host.keys host.accounts no_books messages message)
    ∙ kept_again host.keys host.accounts (books_of host.keys host.accounts messages) message (message_of message)
