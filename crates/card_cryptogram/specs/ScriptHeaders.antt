-- The issuer's script commands by their codes (EMV 4.3 Book 3 sections 6.5.1 to 6.5.3 and 6.5.10; PUT DATA is
-- this project's own).
use Rattle.std.specs.Prelude.{ℕ, ◌==◌, ◌&&◌, if◌then◌else◌, List, Option, Some, None}
use Rattle.std.specs.List.{list_all}
use Rattle.card_state.specs.declared.decision.Scripted.{Scripted}
use Rattle.card_state.specs.declared.decision.Scripted.TheVariants.{Sum}
use Rattle.emv_dict.specs.Bcd.{number_in, has_digits}
use Rattle.card_cryptogram.specs.declared.orders.ScriptCommand.{ScriptCommand}
use Rattle.card_cryptogram.specs.declared.orders.ScriptCommand.TheVariants.{BlockApp, UnblockApp, BlockCard, UnblockPin, ChangePin, LimitCount, LimitSum}

-- the orders of each instruction, by P1 P2
abbrev pub plain_order : ScriptCommand → ℕ → ℕ → Option ScriptCommand
plain_order order p1 p2 = if (p1 == 0) && (p2 == 0) then Some order else None

-- what PIN CHANGE/UNBLOCK orders by P1 P2: the tries at their limit, or a new PIN
abbrev pub pin_order : ℕ → ℕ → Option ScriptCommand
pin_order p1 p2 =
    if (p1 == 0) && (p2 == 0) then Some UnblockPin else if (p1 == 0) && (p2 == 2) then Some ChangePin else None

-- what PUT DATA orders by P1 P2: the limit of the number of offline approvals, or of their sum
abbrev pub limit_order : ℕ → ℕ → Option ScriptCommand
limit_order p1 p2 =
    if (p1 == 0xDF) && (p2 == 1) then Some LimitCount else if (p1 == 0xDF) && (p2 == 2) then Some LimitSum else None

-- how many bytes of data an order has, with its code
abbrev pub size_of : ScriptCommand → ℕ
size_of BlockApp = 8
size_of UnblockApp = 8
size_of BlockCard = 8
size_of UnblockPin = 8
size_of ChangePin = 16
size_of LimitCount = 9
size_of LimitSum = 14

-- a new limit of the sum, where its six bytes are digits
abbrev pub limit_to : List ℕ → Option Scripted
limit_to digits = if list_all has_digits digits then Some (Sum (number_in digits)) else None
