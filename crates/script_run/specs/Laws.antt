-- What a script does, in other words (EMV 4.3 Book 3 section 10.10).
use Rattle.std.specs.Prelude.{◌≡◌, ⊤, true, is_some, List, [], ◌∷◌, ◌++◌, ℕ}
use Rattle.apdu_core.specs.Command.{command_of}
use Rattle.ber_tlv.specs.Written.{written}
use Rattle.script_run.specs.Ran.{goes_on}

-- each of these is a command, and the answer in its place lets the script go on
abbrev pub AllWentOn : List (List ℕ) → List (List ℕ) → Type 0
AllWentOn [] [] = ⊤
AllWentOn [] (answer ∷ answers) = ⊥
AllWentOn (command ∷ commands) [] = ⊥
AllWentOn (command ∷ commands) (answer ∷ answers) =
    (is_some (command_of command) ≡ true) × (goes_on answer ≡ true) × AllWentOn commands answers

-- commands as an issuer writes them (86), one behind another
abbrev pub commands_written : List (List ℕ) → List ℕ
commands_written [] = []
commands_written (command ∷ commands) = written 0x86 command ++ commands_written commands

-- a script with an identifier (9F18) before its commands
abbrev pub script_written : List ℕ → List (List ℕ) → List ℕ
script_written identifier commands = written 0x9F18 identifier ++ commands_written commands
