-- Replies and balances depend on the messages of their own account numbers alone (own).
use Rattle.std.specs.Prelude.{◌≡◌, ℕ, Bool, true, false, List, Option, Some, None, filter, Result, Ok, Err}
use Rattle.auth_message.specs.Message.{message_of}
use Rattle.auth_message.specs.declared.fault.MessageFault.{MessageFault}
use Rattle.auth_message.specs.declared.message.Incoming.{Incoming}
use Rattle.auth_message.specs.declared.message.Incoming.TheVariants.{Request, Present, Reverse}
use Rattle.issuer_host.specs.declared.keys.HostKeys.{HostKeys}
use Rattle.issuer_host.specs.Account.{AccountData}
use Rattle.issuer_host.specs.History.{host_reply, balance_after}

abbrev pub pan_in : Result Incoming MessageFault → Option (List ℕ)
pan_in (Err fault) = None
pan_in (Ok (Request f)) = Some f.named.pan
pan_in (Ok (Present f)) = Some f.named.pan
pan_in (Ok (Reverse f)) = Some f.pan

-- the account number that a message carries, none where it can't be read
unfoldable pub pan_carried : List ℕ → Option (List ℕ)
pan_carried message = pan_in (message_of message)

-- it is one of these
abbrev pub is_own_pan : (List ℕ → Bool) → Option (List ℕ) → Bool
is_own_pan own None = false
is_own_pan own (Some pan) = own pan

-- the messages that carry one of these account numbers, and the accounts that have one
abbrev pub own_messages : (List ℕ → Bool) → List (List ℕ) → List (List ℕ)
own_messages own messages = filter (λ message. is_own_pan own (pan_carried message)) messages

abbrev pub own_accounts : (List ℕ → Bool) → List AccountData → List AccountData
own_accounts own accounts = filter (λ account. own account.pan) accounts

-- of whatever messages, those of some account numbers and those that can't be read are answered, and the balances
-- of these numbers are, as if no other message had come and no other account were there
pub record StandApart : Type 0 where
  pub replies : (own : List ℕ → Bool) (keys : HostKeys) (accounts : List AccountData) (messages : List (List ℕ)) (message : List ℕ)
      → ((pan : List ℕ) → pan_carried message ≡ Some pan → own pan ≡ true)
      → host_reply keys (own_accounts own accounts) (own_messages own messages) message ≡ host_reply keys accounts messages message
  pub balances : (own : List ℕ → Bool) (keys : HostKeys) (accounts : List AccountData) (messages : List (List ℕ)) (pan : List ℕ) → own pan ≡ true
      → balance_after keys (own_accounts own accounts) (own_messages own messages) pan ≡ balance_after keys accounts messages pan
