-- What is told behind a line of a report, piece by piece.
use Rattle.std.specs.Prelude.{ℕ, ◌≡◌, Bool, true, false, if◌then◌else◌, List, [], ◌∷◌, ◌++◌, map, decimal, codes, Option, Some, None}
use Rattle.std.specs.List.{fold, flat_map}
use Rattle.report_lines.specs.Hex.{pair_text}
use Rattle.report_lines.specs.Lines.{MadeLines, WordsData, line_opened, line_begun, shown_character, line_closed}

-- a piece: a new line of this level; characters behind those of the open line; where a reason stands, in the Books or elsewhere
pub data Piece : Type 0 where
  NewLine : ℕ → Piece
  Characters : List ℕ → Piece
  Reference : List ℕ → Piece

-- the lines with characters behind them, which begin a line where none is open
abbrev pub with_characters : MadeLines → List ℕ → MadeLines
with_characters made characters = record made { bytes = line_opened made.bytes ++ map shown_character characters }

-- the lines with a piece behind them; a reference stands in brackets behind a blank, and only where references are told
unfoldable pub with_piece : MadeLines → Piece → MadeLines
with_piece made (NewLine level) = record made { bytes = line_begun made.bytes level }
with_piece made (Characters characters) = with_characters made characters
with_piece made (Reference reference) =
    if made.books then with_characters (with_characters (with_characters made (codes " (")) reference) (codes ")") else made

-- the lines with these pieces behind them
abbrev pub put : MadeLines → List Piece → MadeLines
put made pieces = fold with_piece made pieces

-- no lines yet
abbrev pub no_lines : Bool → MadeLines
no_lines books = record { bytes = []; books = books }

-- the lines that the pieces make, with references or without
abbrev pub lines_of : Bool → List Piece → List ℕ
lines_of books pieces = line_closed (put (no_lines books) pieces).bytes

-- a new line
abbrev pub line : ℕ → List Piece
line level = NewLine level ∷ []

-- characters
abbrev pub text : List ℕ → List Piece
text characters = Characters characters ∷ []

-- where a reason stands
abbrev pub reference : List ℕ → List Piece
reference characters = Reference characters ∷ []

-- a number in decimal
abbrev pub number : ℕ → List Piece
number n = text (decimal n)

-- bytes in upper-case hexadecimal
abbrev pub hex : List ℕ → List Piece
hex bytes = text (flat_map pair_text bytes)

-- a word that was looked up, or what is told where there is none
abbrev pub word_or : List Piece → Option (List ℕ) → List Piece
word_or other None = other
word_or other (Some word) = text word

-- the reference of what has one
abbrev pub reference_or_none : Option (List ℕ) → List Piece
reference_or_none None = []
reference_or_none (Some found) = reference found

-- each of these behind something
abbrev pub each_behind : List Piece → List (List Piece) → List Piece
each_behind between [] = []
each_behind between (one ∷ others) = between ++ one ++ each_behind between others

-- these, with something between; before the first one too, where others stand before them
abbrev pub joined : Bool → List Piece → List (List Piece) → List Piece
joined true between ones = each_behind between ones
joined false between [] = []
joined false between (one ∷ others) = one ++ each_behind between others

-- the pieces were put behind what stood there, unless memory ended; what has failed stays so
abbrev pub Tells : WordsData → WordsData → List Piece → Type 0
Tells old new pieces = new.failed ≡ false → (old.failed ≡ false) × (new.made ≡ put old.made pieces)
