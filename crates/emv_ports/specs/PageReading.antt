-- What pages may give when they are read.
use Rattle.std.specs.Prelude.{◌≡◌, ℕ, ◌<◌, List, Option, Some, None}
use Rattle.std.specs.List.{AllZip}

-- A cell that is sure of a byte gives that byte, and an unsure one any byte.
abbrev pub Agrees : Option ℕ → ℕ → Type 0
Agrees (Some sure) byte = byte ≡ sure
Agrees None byte = byte < 256

-- the bytes agree with each cell of the pages
abbrev pub Reading : List (List (Option ℕ)) → List (List ℕ) → Type 0
Reading cells bytes = AllZip (AllZip Agrees) cells bytes
