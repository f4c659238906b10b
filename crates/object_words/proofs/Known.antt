-- Objects that are told but for those that were sent before.
use Rattle.std.proofs.Common.{◌≡◌, ℕ, Bool, true, false, ◌||◌, List, [], ◌∷◌, ◌++◌, cond, refl}
use Rattle.std.specs.List.{flat_map}
use Rattle.report_lines.specs.Pieces.{Piece}
use Rattle.object_words.specs.Fields.{tag_words, tags_words, known_tag_words}

-- the tags of those that are left
abbrev pub tags_left : Bool → ℕ → List ℕ → List (ℕ × List ℕ) → List Piece
tags_left true level words fields = flat_map (λ known. tag_words known.0) fields
tags_left false level words fields = tags_words level words fields

-- one more of them, where it was sent before
pub tags-next : (known told : Bool) (level : ℕ) (words : List ℕ) (field : ℕ × List ℕ) (fields : List (ℕ × List ℕ))
    → tags_left told level words (cond known (field ∷ fields) fields) ≡ known_tag_words told known field.0 level words ++ tags_left (told || known) level words fields
tags-next true true level words field fields = refl
tags-next true false level words field fields = refl
tags-next false true level words field fields = refl
tags-next false false level words field fields = refl

pub tags-none : (told : Bool) (level : ℕ) (words : List ℕ) → tags_left told level words [] ≡ []
tags-none true level words = refl
tags-none false level words = refl
