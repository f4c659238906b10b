-- The document that stands before a talk.
use Rattle.std.specs.Prelude.{◌≡◌, ℕ, ◌<◌, List, [], ◌∷◌, ◌++◌, length, take, drop, codes, Option, Some, None, if◌then◌else◌}
use Rattle.std.specs.Str.{bytes_eq}
use Rattle.std.specs.Io.KnownBytes.{Consumes}
use Rattle.line_talk.specs.Coming.{OfFirstLine}
use Rattle.line_talk.specs.Numbers.{digits_up_to}
use Rattle.line_talk.specs.declared.document.Preamble.{Preamble}
use Rattle.line_talk.specs.declared.document.Preamble.TheVariants.{Document, Other}

-- what stands behind a mark
abbrev pub behind_mark : List ℕ → List ℕ → Option (List ℕ)
behind_mark mark text = (if bytes_eq (take (length mark) text) mark then Some (drop (length mark) text) else None)

abbrev pub number_behind : Option (List ℕ) → Option ℕ
number_behind None = None
number_behind (Some digits) = digits_up_to 4194304 digits

-- the length that a line says
unfoldable pub length_in : List ℕ → Option ℕ
length_in line = number_behind (behind_mark (codes "document ") line)

-- a line that says the document's length, and the document
pub record IsDocument (old new : Option (List ℕ)) (bytes : List ℕ) : Type 0 where
  pub line : List ℕ
  pub says : length_in line ≡ Some (length bytes)
  pub taken : Consumes old new ((line ++ 10 ∷ []) ++ bytes)

-- fewer bytes are left, where these are known
abbrev pub HasFewer : ℕ → Option (List ℕ) → Type 0
HasFewer count None = Unit {0}
HasFewer count (Some text) = length text < count

-- a line that says no document's length, or has no such document behind it
abbrev pub NoDocument : List ℕ → List ℕ → Type 0
NoDocument line rest = (bytes more : List ℕ) → rest ≡ bytes ++ more → length_in line ≡ Some (length bytes) → ⊥

-- a document of this length
abbrev pub IsDocumentOfLength : ℕ → Option (List ℕ) → Option (List ℕ) → Preamble → Type 0
IsDocumentOfLength count old new (Document bytes) = Consumes old new bytes.items × (length bytes.items ≡ count)
IsDocumentOfLength count old new Other = HasFewer count old

-- the document that stands first, or that none does
abbrev pub IsPreamble : Option (List ℕ) → Option (List ℕ) → Preamble → Type 0
IsPreamble old new (Document bytes) = IsDocument old new bytes.items
IsPreamble old new Other = OfFirstLine NoDocument old
