-- What comes from a source, line by line.
use Rattle.std.specs.Prelude.{◌≡◌, ℕ, ◌<◌, ◌==◌, false, List, [], ◌∷◌, ◌++◌, length, Option, Some, None}
use Rattle.std.specs.List.{list_any}
use Rattle.std.specs.Io.KnownBytes.{Consumes, IsAtEnd}
use Rattle.line_talk.specs.declared.line.Came.{Came}
use Rattle.line_talk.specs.declared.line.Came.TheVariants.{Line, End, Long}

-- a byte, or the end
abbrev pub Gets : Option ℕ → Option (List ℕ) → Option (List ℕ) → Type 0
Gets None old new = Consumes old new [] × IsAtEnd new
Gets (Some byte) old new = Consumes old new (byte ∷ [])

-- bytes without a newline
abbrev pub IsUnbroken : List ℕ → Type 0
IsUnbroken bytes = list_any (λ byte. byte == 10) bytes ≡ false

-- a line was begun
abbrev pub IsLineBegun : Option (List ℕ) → Option (List ℕ) → List ℕ → Type 0
IsLineBegun old new text = Consumes old new text × IsUnbroken text

-- a line with its newline; at the end what stands behind the last newline, and what is too long for a line
abbrev pub Comes : Came → Option (List ℕ) → Option (List ℕ) → List ℕ → Type 0
Comes Line old new text = Consumes old new (text ++ 10 ∷ []) × IsUnbroken text × (length text < 8192)
Comes End old new text = Consumes old new text × IsUnbroken text × IsAtEnd new
Comes Long old new text = Consumes old new text × IsUnbroken text × (length text ≡ 8192)

-- what holds of the first line of a text and of what stands behind it, where that line has fewer than 8,192 bytes
pub record FirstLine (P : List ℕ → List ℕ → Type 0) (text : List ℕ) : Type 0 where
  pub holds : (line rest : List ℕ) → text ≡ line ++ 10 ∷ rest → IsUnbroken line → length line < 8192 → P line rest

-- the same of what is left, where that is known
abbrev pub OfFirstLine : (List ℕ → List ℕ → Type 0) → Option (List ℕ) → Type 0
OfFirstLine P None = Unit {0}
OfFirstLine P (Some text) = FirstLine P text
