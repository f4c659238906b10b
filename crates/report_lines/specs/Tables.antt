-- What stands in a table of words.
use Rattle.std.specs.Prelude.{ℕ, ◌==◌, if◌then◌else◌, List, [], ◌∷◌, Option, Some, None}
use Rattle.std.specs.Str.{bytes_eq}

-- the word of a code, where the table has one
unfoldable pub word_in : List (ℕ × List ℕ) → ℕ → Option (List ℕ)
word_in [] code = None
word_in (w ∷ ws) code = (if w.0 == code then Some w.1 else word_in ws code)

-- the word of a text
unfoldable pub text_in : List (List ℕ × List ℕ) → List ℕ → Option (List ℕ)
text_in [] text = None
text_in (w ∷ ws) text = (if bytes_eq w.0 text then Some w.1 else text_in ws text)
