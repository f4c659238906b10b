-- Values that the issuer gives or reads, in words.
use Rattle.std.specs.Prelude.{ℕ, ◌+◌, ◌*◌, ◌/◌, ◌%◌, ◌==◌, Bool, ◌&&◌, nat_le, if◌then◌else◌, List, [], ◌∷◌, ◌++◌, length, map, slice_index, take, drop, bit_and, codes, Option, Some, None}
use Rattle.report_lines.specs.Pieces.{Piece, text, number, hex, word_or, reference, reference_or_none}
use Rattle.report_lines.specs.References.{response_reference}
use Rattle.report_lines.specs.declared.references.TheConstants.{SETTLED}
use Rattle.report_lines.specs.Tables.{word_in}
use Rattle.value_words.specs.declared.bits.TheConstants.{UPDATE_BITS}
use Rattle.value_words.specs.declared.codes.TheConstants.{CRYPTOGRAMS, RESPONSES}
use Rattle.object_words.specs.Bits.{behind_comma, bit_words}
use Rattle.value_words.specs.Plain.{told_if}
use Rattle.object_words.specs.declared.phrases.TheConstants.{STATUS_UPDATE, REFUSED, OFFLINE_APPROVALS, PIN_TRIES, APPLICATION_BLOCKED, AUTHENTICATION_FAILED, RESPONSE_CRYPTOGRAM}

-- the kind of cryptogram of a byte's two high bits, behind a comma (EMV 4.3 Book 3 section 6.5.5.4)
abbrev pub kind_words : ℕ → List Piece
kind_words byte = behind_comma (word_in (map (λ w. (w.0, w.1.now)) CRYPTOGRAMS) (byte / 64 * 64))

-- cryptogram information data
abbrev pub information_words : List ℕ → Option (List Piece)
information_words value = told_if (length value == 1) (hex value ++ kind_words (slice_index value 0))

-- a flag that is set
abbrev pub flag_words : Bool → List ℕ → List Piece
flag_words holds characters = (if holds then text characters else [])

-- what the issuer asks of the card: four bytes (EMV 4.3 Book 3 Annex C8)
abbrev pub approval_words : ℕ → List Piece
approval_words byte = (if nat_le 128 byte then text (codes "approved") else text (codes "not approved"))

abbrev pub update_words : List ℕ → List Piece
update_words update =
    text STATUS_UPDATE.now ++ hex update ++ text (codes ": ") ++ approval_words (slice_index update 0)
    ++ bit_words (map (λ w. (w.0, w.1.now)) UPDATE_BITS) [] (0 ∷ bit_and (slice_index update 1) 0xF0 ∷ [])

-- the words of a response code
unfoldable pub response_word : ℕ → Option (List ℕ)
response_word code = word_in (map (λ w. (w.0, w.1.now)) RESPONSES) code

abbrev pub known_response_words : ℕ → List Piece
known_response_words code = word_or (text (codes "not known")) (response_word code)

-- an authorisation response code in words, and where it stands
abbrev pub response_words : ℕ → List Piece
response_words code = known_response_words code ++ reference_or_none (response_reference code)

-- what became of a message of the settlement: 00 has its own words there
abbrev pub answer_words : ℕ → List ℕ → List Piece
answer_words code approved =
    if code == 0x3030 then text approved ++ reference SETTLED.now
    else if code == 0x3035 then text REFUSED.now ++ reference SETTLED.now
    else response_words code

abbrev pub issuer_code_words : ℕ → Option (List ℕ) → List Piece
issuer_code_words code None = response_words code
issuer_code_words code (Some approved) = answer_words code approved

-- a character of a response code
abbrev pub is_code_character : ℕ → Bool
is_code_character byte = nat_le 33 byte && nat_le byte 126

-- a response code of two characters and its words
abbrev pub response_code_words : List ℕ → Option (List ℕ) → Option (List Piece)
response_code_words value approved =
    told_if (length value == 2 && (is_code_character (slice_index value 0) && is_code_character (slice_index value 1)))
    (text value ++ text (codes ", ") ++ issuer_code_words (slice_index value 0 * 256 + slice_index value 1) approved)

-- the kind in the two high bits of a byte of issuer application data, behind a comma
abbrev pub data_kind : ℕ → List ℕ
data_kind kind =
    if kind == 0 then codes ", AAC"
    else if kind == 1 then codes ", TC"
    else if kind == 2 then codes ", ARQC"
    else codes ", no kind"

abbrev pub data_counts : ℕ → ℕ → List Piece
data_counts count tries = text OFFLINE_APPROVALS.now ++ number count ++ text PIN_TRIES.now ++ number tries

abbrev pub data_flags : ℕ → List Piece
data_flags flags = flag_words (flags % 2 == 1) APPLICATION_BLOCKED.now ++ flag_words (flags / 2 % 2 == 1) AUTHENTICATION_FAILED.now

-- issuer application data of this project's form: 01, the kind, the flags, the offline approvals, the PIN tries that are
-- left, 01
abbrev pub issuer_data_words : List ℕ → Option (List Piece)
issuer_data_words value =
    told_if (length value == 6 && (slice_index value 0 == 1 && slice_index value 5 == 1))
    (hex value ++ text (data_kind (slice_index value 1 / 64)) ++ data_counts (slice_index value 3) (slice_index value 4) ++ data_flags (slice_index value 2))

-- a response cryptogram of four bytes and a card status update of four
abbrev pub update_data_words : List ℕ → List Piece
update_data_words front =
    if length front == 8
    then hex (slice_index front 0 ∷ slice_index front 1 ∷ slice_index front 2 ∷ slice_index front 3 ∷ [])
    ++ update_words (slice_index front 4 ∷ slice_index front 5 ∷ slice_index front 6 ∷ slice_index front 7 ∷ [])
    else []

abbrev pub response_data : List ℕ → List ℕ → Bool → List Piece
response_data front rest has_code = (if has_code then hex front ++ text (codes ", code ") ++ text rest else update_data_words front)

-- issuer authentication data: a response cryptogram of eight bytes and a code of two, or the other form (EMV 4.3 Book 2
-- section 8.2)
abbrev pub authentication_words : List ℕ → Option (List Piece)
authentication_words value =
    told_if (nat_le 8 (length value))
    (text RESPONSE_CRYPTOGRAM.now ++ response_data (take 8 value) (drop 8 value) (length (drop 8 value) == 2))
