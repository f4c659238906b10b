-- A script as a contract sees it. Words and orders are seen as they are declared (EMV 4.3 Book 3 section 10.10).
use Rattle.std.specs.Prelude.{ℕ, ◌≡◌, ◌≤◌, Bool, List, length, Option, IfSome}
use Rattle.std.specs.List.{All}
use Rattle.script_words.specs.Spelling.{IsWord}
use Rattle.script_words.specs.declared.script.Ordered.{Ordered}

pub record ScriptData : Type 0 where
  pub before : Bool
  pub id : Option (List ℕ)
  pub commands : List Ordered

-- a script that an issuer can send
pub record IsScript (script : ScriptData) : Type 0 where
  pub some_command : 1 ≤ length script.commands
  pub few_commands : length script.commands ≤ 16
  pub identifier : IfSome script.id (λ id. length id ≡ 4)
  pub words : All (λ order. IsWord order.word) script.commands
