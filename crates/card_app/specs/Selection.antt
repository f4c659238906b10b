-- What SELECT finds: an application (EMV 4.3 Book 1 section 11.3), or the payment system directory (section 12.2.2).
use Rattle.std.specs.Prelude.{ℕ, ◌+◌, ◌==◌, nat_eq, if◌then◌else◌, List, [], ◌∷◌, drop, Option, Some, None}
use Rattle.std.specs.List.{starts_with}
use Rattle.card_files.specs.Directory.{directory_named}
use Rattle.card_files.specs.Views.{AppData, ImageData}
use Rattle.card_cryptogram.specs.Phases.{current}
use Rattle.card_cryptogram.specs.declared.phase.Phase.{Phase}

-- the first application whose name begins with these bytes, where the first one has this number
unfoldable pub first_named : ℕ → List ℕ → List AppData → Option ℕ
first_named number name [] = None
first_named number name (app ∷ apps) =
    if starts_with nat_eq app.name name then Some number else first_named (number + 1) name apps

-- the number behind the selected application
abbrev pub next_app_number : Option ℕ → ℕ
next_app_number None = 0
next_app_number (Some app) = app + 1

-- where SELECT begins to look: the next occurrence (P2 02) is behind the selected application
abbrev pub looks_from : Phase → ℕ → ℕ
looks_from phase p2 = if p2 == 2 then next_app_number (current phase) else 0

-- the application that SELECT with these data finds
abbrev pub app_found : List AppData → Phase → ℕ → List ℕ → Option ℕ
app_found apps phase p2 name = first_named (looks_from phase p2) name (drop (looks_from phase p2) apps)

-- the file of the directory, where SELECT of the first occurrence has its name and the card has one
abbrev pub directory_asked : ImageData → ℕ → List ℕ → Option ℕ
directory_asked image p2 name = if p2 == 0 then directory_named image name else None
