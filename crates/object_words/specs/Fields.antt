-- Fields of object lists in words (EMV 4.3 Book 3 section 5.4).
use Rattle.std.specs.Prelude.{ℕ, ◌==◌, Bool, not, ◌&&◌, ◌||◌, if◌then◌else◌, List, [], ◌∷◌, ◌++◌, codes}
use Rattle.std.specs.List.{filter, flat_map}
use Rattle.report_lines.specs.Pieces.{Piece, line, text, hex}
use Rattle.ber_tlv.specs.Written.{tag_bytes}
use Rattle.value_words.specs.Fields.{fields_of, are_fitting, has_field_of}
use Rattle.object_words.specs.Objects.{object_words}
use Rattle.value_words.specs.Plain.{hex_words}
use Rattle.object_words.specs.declared.style.Style.{Style}

-- data that are not as long as their list wants
abbrev pub data_words : ℕ → List ℕ → List Piece
data_words level bytes = line level ++ text (codes "data: ") ++ hex_words bytes

-- a field in a line of its own
abbrev pub field_words : Style → ℕ × List ℕ → List Piece
field_words style field = object_words style field.0 field.1

-- each field of the list, or the data where they are not as long as it wants
abbrev pub fields_words : Style → List ℕ → List ℕ → List Piece
fields_words style list bytes = (if are_fitting list bytes then flat_map (field_words style) (fields_of list bytes) else data_words style.level bytes)

-- a field that was sent before; terminal verification results count only where they may
abbrev pub is_known : List (ℕ × List ℕ) → Bool → ℕ × List ℕ → Bool
is_known known with_results field = (with_results || not (field.0 == 0x95)) && has_field_of field.0 field.1 known

-- those that were not sent before
abbrev pub new_words : Style → (ℕ × List ℕ → Bool) → ℕ × List ℕ → List Piece
new_words style known field = (if known field then [] else field_words style field)

-- a tag behind a blank
abbrev pub tag_words : ℕ → List Piece
tag_words tag = text (codes " ") ++ hex (tag_bytes tag)

-- the tags of those that were, in one line behind these words
abbrev pub tags_words : ℕ → List ℕ → List (ℕ × List ℕ) → List Piece
tags_words level words [] = []
tags_words level words (field ∷ fields) = line level ++ text words ++ flat_map (λ known. tag_words known.0) (field ∷ fields)

-- one of them, behind these words where it is the first
abbrev pub known_tag_words : Bool → Bool → ℕ → ℕ → List ℕ → List Piece
known_tag_words told known tag level words = (if known then (if told then [] else line level ++ text words) ++ tag_words tag else [])

-- each field but those that were sent before, and the tags of these in a last line
abbrev pub new_fields_words : Style → List ℕ → List ℕ → List (ℕ × List ℕ) → Bool → List Piece
new_fields_words style list bytes known with_results =
    if are_fitting list bytes
    then flat_map (new_words style (is_known known with_results)) (fields_of list bytes)
    ++ tags_words style.level (codes "as in the first:") (filter (is_known known with_results) (fields_of list bytes))
    else data_words style.level bytes
