-- Messages in the style of ISO 8583:1987 in words.
use Rattle.std.specs.Prelude.{ℕ, ◌==◌, Bool, ◌&&◌, nat_le, if◌then◌else◌, List, [], ◌∷◌, ◌++◌, length, map, take, drop, slice_index, codes, Option, Some, None, option_map, is_some}
use Rattle.std.specs.List.{flat_map}
use Rattle.report_lines.specs.Tables.{word_in}
use Rattle.value_words.specs.declared.codes.TheConstants.{FIELDS, MESSAGE_TYPES}
use Rattle.value_words.specs.declared.names.Form.TheVariants.{Response}
use Rattle.value_words.specs.Plain.{hex_words}
use Rattle.object_words.specs.Objects.{objects_words, value_words}
use Rattle.object_words.specs.Results.{behind_blank}
use Rattle.object_words.specs.declared.style.Style.{Style}
use Rattle.report_lines.specs.Pieces.{Piece, line, text, number}
use Rattle.message_words.specs.Fields.{four_digits, cut_field, named_from, field_contents, begins_with_code}
use Rattle.message_words.specs.Objects.{new_objects_words}
use Rattle.message_words.specs.declared.iso.Message.{Message}

-- the word of a message's type, and of a field
unfoldable pub type_word : ℕ → Option (List ℕ)
type_word kind = word_in (map (λ w. (w.0, w.1.now)) MESSAGE_TYPES) kind

unfoldable pub field_word : ℕ → Option (List ℕ)
field_word number = word_in (map (λ w. (w.0, w.1.now)) FIELDS) number

-- a message: the digits of its type, the type, and what stands behind it
pub record MessageData : Type 0 where
  pub digits : List ℕ
  pub kind : ℕ
  pub rest : List ℕ

abbrev pub seen_message : Message → MessageData
seen_message message = record { digits = message.digits.now; kind = message.kind; rest = message.rest.now }

-- a type that is known
abbrev pub if_known : Option ℕ → Option ℕ
if_known None = None
if_known (Some kind) = (if is_some (type_word kind) then Some kind else None)

abbrev pub known_type : List ℕ → Option ℕ
known_type digits = if_known (four_digits digits)

-- the message that these bytes are; none where they begin with no type that is known
unfoldable pub iso_message_of : List ℕ → Option MessageData
iso_message_of bytes =
    if nat_le 4 (length bytes)
    then option_map (λ kind. record { digits = take 4 bytes; kind = kind; rest = drop 4 bytes }) (known_type (take 4 bytes)) else None

-- the objects of field 55: of a request beside those that were sent before, else with what they hold
abbrev pub items_words : Style → Option (List (ℕ × List ℕ)) → List ℕ → List Piece
items_words style None bytes = objects_words 8 style bytes
items_words style (Some known) bytes = new_objects_words (Some known) bytes

-- the content of another field: the enciphered PIN in hexadecimal, the response code with its words, or the characters
abbrev pub characters_words : Style → ℕ → List ℕ → List Piece
characters_words style number bytes =
    if number == 52 then hex_words bytes
    else if number == 39 then value_words Response style bytes
    else text bytes

-- a field in a line of its own: its number, its name, and its content
abbrev pub iso_field_words : Style → ℕ → List ℕ → List Piece
iso_field_words style n bytes =
    line style.level ++ text (codes "field ") ++ number n ++ behind_blank (field_word n) ++ text (codes ": ") ++ characters_words style n bytes

abbrev pub content_words : Style → Option (List (ℕ × List ℕ)) → ℕ × List ℕ → List Piece
content_words style known field = (if field.0 == 55 then items_words style known field.1 else iso_field_words style field.0 field.1)

-- the first field of bytes, where it can be taken apart
abbrev pub first_words : Style → Option (List (ℕ × List ℕ)) → ℕ → Option (List ℕ × List ℕ) → List Piece
first_words style known number None = []
first_words style known number (Some parts) = content_words style known (number, parts.0)

-- the same where the bitmap names a field of this number, and what is left behind it
abbrev pub words_if_named : Style → Option (List (ℕ × List ℕ)) → Bool → ℕ → List ℕ → List Piece
words_if_named style known named number bytes = (if named then first_words style known number (cut_field number bytes) else [])

abbrev pub rest_if_named : Bool → ℕ → List ℕ → Option (List ℕ)
rest_if_named named number bytes = (if named then option_map (λ parts. parts.1) (cut_field number bytes) else Some bytes)

-- each field that the bitmap names, up to the first one that can't be taken apart
abbrev pub iso_fields_words : Style → Option (List (ℕ × List ℕ)) → List ℕ → List ℕ → List Piece
iso_fields_words style known bitmap bytes = flat_map (content_words style known) (field_contents (named_from bitmap 1) bytes)

-- a bitmap of eight bytes, and the fields
abbrev pub rest_words : Style → Option (List (ℕ × List ℕ)) → List ℕ → List Piece
rest_words style known rest = (if nat_le 8 (length rest) then iso_fields_words style known (take 8 rest) (drop 8 rest) else [])

-- its type, and its fields
abbrev pub message_words : Style → Option (List (ℕ × List ℕ)) → MessageData → Bool → List Piece
message_words style known message brief =
    line 1 ++ text message.digits ++ behind_blank (type_word message.kind) ++ (if brief then [] else rest_words style known message.rest)

-- the first two bytes
abbrev pub two_of : List ℕ → Option (List ℕ)
two_of bytes = (if nat_le 2 (length bytes) then Some (slice_index bytes 0 ∷ slice_index bytes 1 ∷ []) else None)

-- the response code behind a type: field 39, which no other field stands before
abbrev pub reply_code : List ℕ → Option (List ℕ)
reply_code rest = (if nat_le 8 (length rest) && begins_with_code (take 8 rest) then two_of (drop 8 rest) else None)
