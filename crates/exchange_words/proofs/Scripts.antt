-- Commands of a script, and what is kept of commands.
use Rattle.std.proofs.Common.{◌≡◌, ℕ, true, false, List, ◌++◌, codes, Option, Some, None, is_some, refl}
use Rattle.report_lines.specs.Pieces.{Piece, text}
use Rattle.value_words.specs.Plain.{or_nothing}
use Rattle.exchange_words.specs.Commands.{command_cited, issuer_script_words}

-- a command that has a name
pub script-named : (words : Option (List Piece)) (head : ℕ) (name : List Piece) → is_some words ≡ true
    → issuer_script_words words head name ≡ or_nothing words ++ text (codes " (issuer script)") ++ command_cited head
script-named None head name some = absurd cc
script-named (Some words) head name some = refl

-- one that has none
pub script-unnamed : (words : Option (List Piece)) (head : ℕ) (name : List Piece) → is_some words ≡ false
    → issuer_script_words words head name ≡ or_nothing words ++ name
script-unnamed None head name none = refl
script-unnamed (Some words) head name none = absurd cc
