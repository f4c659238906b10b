-- A command that can be asked.
use Rattle.std.specs.Prelude.{◌≡◌, true, ℕ, ◌<◌, List, ◌∷◌, drop, is_some, IsOk}
use Rattle.apdu_core.specs.Command.{command_of}
use Rattle.ber_tlv.specs.Left.{items_of}
use Rattle.script_run.specs.Script.{commands_of}

-- the command of a template that has so many before it is there, and its bytes are a command
pub record IsCommandAsked (template : List ℕ) (before : ℕ) : Type 0 where
  pub whole : IsOk (items_of template)
  pub command : List ℕ
  pub later : List (List ℕ)
  pub stands : drop before (commands_of template) ≡ command ∷ later
  pub few : before < 512
  pub sendable : is_some (command_of command) ≡ true
