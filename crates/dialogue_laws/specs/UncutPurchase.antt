-- What a terminal is told in a purchase whose card stays in it: the answers that the card gives to its commands, and the
-- replies of a host whose scripts leave the transaction to the terminal.
use Rattle.std.specs.Prelude.{◌≡◌, ⊤, ℕ, ◌==◌, Bool, not, ◌||◌, IsTrue, IfSome, List, [], ◌∷◌, ◌++◌, Option, Some, None, Result, Ok, Err}
use Rattle.std.specs.List.{All}
use Rattle.apdu_core.specs.Command.{command_of}
use Rattle.auth_message.specs.Reply.{ReplyData, reply_of}
use Rattle.auth_message.specs.declared.fault.MessageFault.{MessageFault}
use Rattle.card_files.specs.Views.{ImageData}
use Rattle.card_state.specs.Decisions.{Decided}
use Rattle.dialogue_laws.specs.Cards.{Now, powered_with, says, goes}
use Rattle.emv_dict.specs.declared.ending.Ending.{Ending}
use Rattle.emv_dict.specs.declared.ending.Ending.TheVariants.{Approved, Declined, Terminated, CutOff}
use Rattle.emv_dict.specs.declared.purchase.Logged.{Logged}
use Rattle.kernel.specs.Dialogue.{dialogue}
use Rattle.kernel.specs.Reply.{Reply, CardSaid, from_host, ToCard, ToHost}
use Rattle.script_run.specs.Script.{script_of}
use Rattle.terminal_state.specs.Scripts.{templates_of_tag}
use Rattle.terminal_state.specs.Terminal.{Outset}

-- SELECT, GET PROCESSING OPTIONS and GENERATE AC move a transaction on (EMV 4.3 Book 3 section 6.5)
abbrev pub moves_on : ℕ → Bool
moves_on ins = (ins == 0xA4) || ((ins == 0xA8) || (ins == 0xAE))

-- a script's command is none of them
abbrev pub IsPlain : List ℕ → Type 0
IsPlain command = IfSome (command_of command) (λ c. IsTrue (not (moves_on c.ins)))

-- nor is any in the script of a template
abbrev pub IsPlainScript : List ℕ → Type 0
IsPlainScript template = IfSome (script_of template) (λ script. All IsPlain script.commands)

-- the scripts that run before the second GENERATE AC leave the transaction to the terminal
abbrev pub IsPlainReply : Result ReplyData MessageFault → Type 0
IsPlainReply (Ok reply) = All IsPlainScript (templates_of_tag 0x71 reply.scripts)
IsPlainReply (Err fault) = ⊤

-- silence, or a reply with such scripts
abbrev pub IsLinked : Option (List ℕ) → Type 0
IsLinked None = ⊤
IsLinked (Some reply) = IsPlainReply (reply_of reply)

-- behind these replies the card stands so; the terminal's log may have changed with each answer
pub data IsToldSo (image : ImageData) (outset : Outset) (found : List Decided) : Now → List Reply → Type 0 where
  begins : IsToldSo image outset found (powered_with found) []
  card : {now : Now} {replies : List Reply} {command : List ℕ} (log : List Logged) →
      IsToldSo image outset found now replies → (dialogue outset replies).deed ≡ ToCard command →
      IsToldSo image outset found (goes image now command) (replies ++ CardSaid (says image now command) log ∷ [])
  host : {now : Now} {replies : List Reply} {message : List ℕ} (reply : Option (List ℕ)) →
      IsToldSo image outset found now replies → (dialogue outset replies).deed ≡ ToHost message → IsLinked reply →
      IsToldSo image outset found now (replies ++ from_host reply ∷ [])

-- the outcome of a purchase that was decided (EMV 4.3 Book 4 section 6.3.7)
abbrev pub IsDecided : Ending → Type 0
IsDecided (Approved online) = ⊤
IsDecided (Declined online) = ⊤
IsDecided (Terminated step cause) = ⊥
IsDecided (CutOff step) = ⊥
