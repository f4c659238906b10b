-- The kind of cryptogram that is answered, where it is not the one that was asked for (EMV 4.3 Book 3 sections 6.5.5 and
-- 10.8).
use Rattle.std.specs.Prelude.{ℕ, ◌+◌, ◌/◌, ◌%◌, ◌==◌, Bool, ◌&&◌, nat_lt, if◌then◌else◌, min, List, [], ◌++◌, length, drop, slice_index, codes, Option, Some, None, option_map, is_some, Result, Ok, Err}
use Rattle.ber_tlv.specs.Direct.{found_value, sole_value}
use Rattle.ber_tlv.specs.Left.{items_of}
use Rattle.ber_tlv.specs.declared.item.TlvFault.{TlvFault}
use Rattle.emv_dict.specs.Kinds.{kind_of, rank_of, is_above}
use Rattle.emv_dict.specs.declared.ending.Kind.{Kind}
use Rattle.emv_dict.specs.declared.ending.Kind.TheVariants.{Aac, Tc, Arqc}
use Rattle.report_lines.specs.Pieces.{Piece, line, text}
use Rattle.value_words.specs.Statuses.{kind_name}
use Rattle.exchange_words.specs.declared.lane.LaneState.{LaneState}

-- the value that was found; nothing of a fault
abbrev pub or_empty : Result (Option (List ℕ)) TlvFault → List ℕ
or_empty (Ok (Some value)) = value
or_empty (Ok None) = []
or_empty (Err fault) = []

-- the cryptogram information data and the issuer application data of an answer: behind 11 bytes of format 1, or as 9F27 and
-- 9F10 of format 2
abbrev pub parts_of_one : List ℕ → Option (ℕ × List ℕ)
parts_of_one value = (if nat_lt (length value) 11 then None else Some (slice_index value 0, drop 11 value))

-- the value of the first object of a tag; nothing where there is none, or no whole objects
abbrev pub value_or_empty : ℕ → List ℕ → List ℕ
value_or_empty tag objects = or_empty (found_value tag (items_of objects))

abbrev pub parts_of_two : List ℕ → Option (ℕ × List ℕ)
parts_of_two template =
    if length (value_or_empty 0x9F27 template) == 1
    then Some (slice_index (value_or_empty 0x9F27 template) 0, value_or_empty 0x9F10 template) else None

abbrev pub parts_if_two : Option (List ℕ) → Option (ℕ × List ℕ)
parts_if_two None = None
parts_if_two (Some template) = parts_of_two template

abbrev pub parts_by : Option (List ℕ) → List ℕ → Option (ℕ × List ℕ)
parts_by None body = parts_if_two (sole_value 0x77 (items_of body))
parts_by (Some value) body = parts_of_one value

abbrev pub cryptogram_parts : List ℕ → Option (ℕ × List ℕ)
cryptogram_parts body = parts_by (sole_value 0x80 (items_of body)) body

-- the flags of issuer application data of this project's form
abbrev pub flags_in_data : List ℕ → Option ℕ
flags_in_data bytes = (if length bytes == 6 && (slice_index bytes 0 == 1 && slice_index bytes 5 == 1) then Some (slice_index bytes 2) else None)

-- why a TC that was asked for was not given, by the card's flags
abbrev pub refused_words : ℕ → List Piece
refused_words flags =
    if flags % 2 == 1 then text (codes ": the application is blocked")
    else if flags / 2 % 2 == 1 then text (codes ": its last issuer authentication failed")
    else text (codes ": its limits of offline approvals, or the currency")

abbrev pub refusal_flags_words : Bool → Option ℕ → List Piece
refusal_flags_words by_issuer None = []
refusal_flags_words by_issuer (Some flags) =
    if by_issuer && flags % 2 == 0
    then text (codes ": the issuer was not authenticated, refuses by its status, or the card is blocked")
    else refused_words flags

-- a kind above the one that was asked for, or one below a TC
abbrev pub why_words : Bool → Kind → List ℕ → List Piece
why_words by_issuer Tc bytes = refusal_flags_words by_issuer (flags_in_data bytes)
why_words by_issuer Aac bytes = []
why_words by_issuer Arqc bytes = []

abbrev pub other_kind_words : LaneState → Kind → Kind → List ℕ → List Piece
other_kind_words lane asked kind bytes =
    line 1 ++ text (codes "asked for ") ++ text (kind_name asked) ++ text (codes ", the card answers ") ++ text (kind_name kind)
    ++ (if is_above kind asked then text (codes ", which it may not") else why_words (lane.second && is_some lane.code) asked bytes)

-- two kinds are the same
abbrev pub is_same_kind : Kind → Kind → Bool
is_same_kind one other = rank_of one == rank_of other

-- a kind that was answered, where another one was asked for
abbrev pub if_other : LaneState → Option Kind → Kind → List ℕ → List Piece
if_other lane None kind bytes = []
if_other lane (Some asked) kind bytes = (if is_same_kind asked kind then [] else other_kind_words lane asked kind bytes)

-- the kind that an answer gives, and the issuer application data
abbrev pub kind_with : Option (ℕ × List ℕ) → Option (Kind × List ℕ)
kind_with None = None
kind_with (Some parts) = option_map (λ kind. (kind, parts.1)) (kind_of parts.0)

-- the kind of cryptogram that an answer gives, and the issuer application data
abbrev pub kind_answered : List ℕ → Option (Kind × List ℕ)
kind_answered body = kind_with (cryptogram_parts body)

-- the kind that is answered, in words, where it isn't the one that was asked for
abbrev pub answered_kind_words : LaneState → Option (Kind × List ℕ) → List Piece
answered_kind_words lane None = []
answered_kind_words lane (Some found) = if_other lane lane.asked found.0 found.1

-- one more answer was read, and its kind
abbrev pub one_answer_more : ℕ → ℕ
one_answer_more count = min (count + 1) 255

-- what an answer with a cryptogram leaves: one more, and its kind where it could be read
abbrev pub with_kind : LaneState → Option (Kind × List ℕ) → LaneState
with_kind lane None = record lane { cryptograms = one_answer_more lane.cryptograms }
with_kind lane (Some found) = record lane { cryptograms = one_answer_more lane.cryptograms; answered = Some found.0 }
