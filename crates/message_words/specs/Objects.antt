-- The objects of a message, and those of them that the first GENERATE AC had as well.
use Rattle.std.specs.Prelude.{ℕ, Bool, false, if◌then◌else◌, List, [], ◌++◌, codes, Option, Some, None, option_map}
use Rattle.std.specs.List.{flat_map, list_any}
use Rattle.std.specs.Borrow.{Bor}
use Rattle.ber_tlv.specs.Item.{ItemData}
use Rattle.ber_tlv.specs.Written.{tag_bytes}
use Rattle.value_words.specs.Fields.{fields_of, has_field_of}
use Rattle.value_words.specs.declared.fields.Fields.{Fields}
use Rattle.object_words.specs.Leading.{leading_items}
use Rattle.object_words.specs.Objects.{object_words}
use Rattle.object_words.specs.declared.style.ResultsStyle.TheVariants.{OneLine}
use Rattle.object_words.specs.declared.style.Style.{Style}
use Rattle.report_lines.specs.Pieces.{Piece, line, text, hex}
use Rattle.message_words.specs.declared.phrases.TheConstants.{AS_BEFORE}

-- the objects of a message at this level, with the bits of results in one line; `answer` is what the response code 00 says
abbrev pub styled : ℕ → Option (Bor (List ℕ)) → Style
styled level answer = record { level = level; results = OneLine; answer = answer }

-- words that are borrowed from somewhere; where they stand is never told
abbrev pub borrowed : List ℕ → Bor (List ℕ)
borrowed words = record { ref_ptr = (0, 0); now = words }

abbrev pub message_style : ℕ → Option (List ℕ) → Style
message_style level answer = styled level (option_map borrowed answer)

-- the fields that were sent before, each its tag and its value, where a message may repeat some
abbrev pub sent_before : Option Fields → Option (List (ℕ × List ℕ))
sent_before known = option_map (λ fields. fields_of fields.list.now fields.data.now) known

-- an object was sent before
abbrev pub is_repeated : Option (List (ℕ × List ℕ)) → ItemData → Bool
is_repeated None item = false
is_repeated (Some known) item = has_field_of item.tag item.value known

-- an object in a line of its own
abbrev pub own_line : ItemData → List Piece
own_line item = object_words (message_style 2 None) item.tag item.value

-- where it was not sent before
abbrev pub if_new : Option (List (ℕ × List ℕ)) → ItemData → List Piece
if_new known item = (if is_repeated known item then [] else own_line item)

-- the tag of an object that was
abbrev pub if_repeated : Option (List (ℕ × List ℕ)) → ItemData → List Piece
if_repeated known item = (if is_repeated known item then text (codes " ") ++ hex (tag_bytes item.tag) else [])

-- the tags of those that were, in one line
abbrev pub repeated_words : Option (List (ℕ × List ℕ)) → List ItemData → List Piece
repeated_words known items =
    if list_any (is_repeated known) items then line 2 ++ text AS_BEFORE.now ++ flat_map (if_repeated known) items else []

-- the objects before the first fault in lines of their own, but those that were sent before, whose tags stand in a last line
abbrev pub new_objects_words : Option (List (ℕ × List ℕ)) → List ℕ → List Piece
new_objects_words known bytes = flat_map (if_new known) (leading_items bytes) ++ repeated_words known (leading_items bytes)
