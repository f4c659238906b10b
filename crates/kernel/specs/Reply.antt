-- What a terminal is told, and what it does next.
use Rattle.std.specs.Prelude.{ℕ, List, Option, Some, None}
use Rattle.emv_dict.specs.declared.ending.Ending.{Ending}
use Rattle.emv_dict.specs.declared.purchase.Logged.{Logged}

-- the card's answer, with the terminal's log of earlier purchases as it is then; the card is gone; the host's reply;
-- the host doesn't reply
pub data Reply : Type 0 where
  CardSaid : (answer : List ℕ) → (log : List Logged) → Reply
  CardGone : Reply
  HostSaid : (reply : List ℕ) → Reply
  HostSilent : Reply

-- a command for the card, a message for the host, or the end
pub data Deed : Type 0 where
  ToCard : (command : List ℕ) → Deed
  ToHost : (message : List ℕ) → Deed
  Over : (ending : Ending) → Deed

-- what a terminal is told by the host, where it replies and where it doesn't
abbrev pub from_host : Option (List ℕ) → Reply
from_host (Some reply) = HostSaid reply
from_host None = HostSilent
