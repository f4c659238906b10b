-- The message that bytes are, or its first fault (own).
use Rattle.std.specs.Prelude.{ℕ, ◌==◌, if◌then◌else◌, List, [], ◌∷◌, Result, Ok}
use Rattle.ber_tlv.specs.Item.{ItemData}
use Rattle.auth_message.specs.declared.fault.MessageFault.{MessageFault}
use Rattle.auth_message.specs.declared.message.Incoming.{Incoming}
use Rattle.auth_message.specs.declared.message.Incoming.TheVariants.{Request, Present, Reverse}
use Rattle.auth_message.specs.Fields.{◌>>=◌}
use Rattle.auth_message.specs.Messages.{request_at, present_at, reversal_at}
use Rattle.auth_message.specs.Outer.{outer_of}

-- the message of a tag: E1, E3, else E4
abbrev pub message_in : ℕ × List ItemData → Result Incoming MessageFault
message_in outer =
    if outer.0 == 0xE1 then (request_at outer.1 >>= λ fields. Ok (Request fields))
    else if outer.0 == 0xE3 then (present_at outer.1 >>= λ fields. Ok (Present fields))
    else (reversal_at outer.1 >>= λ fields. Ok (Reverse fields))

-- the message that bytes are, by its tag E1, E3 or E4, or its first fault
abbrev pub message_of : List ℕ → Result Incoming MessageFault
message_of bytes = outer_of (0xE1 ∷ 0xE3 ∷ 0xE4 ∷ []) bytes >>= message_in
