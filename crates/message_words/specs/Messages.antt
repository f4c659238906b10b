-- Messages to the issuer and its replies in words, in both dialects.
use Rattle.std.specs.Prelude.{ℕ, ◌==◌, Bool, if◌then◌else◌, List, [], ◌∷◌, ◌++◌, length, slice_index, codes, Option, Some, None, is_some, Result, Ok, Err}
use Rattle.ber_tlv.specs.Direct.{found_value, sole_value}
use Rattle.ber_tlv.specs.Left.{items_of, fault_of}
use Rattle.ber_tlv.specs.declared.item.TlvFault.{TlvFault}
use Rattle.object_words.specs.Objects.{objects_words}
use Rattle.object_words.specs.declared.style.Style.{Style}
use Rattle.report_lines.specs.Pieces.{Piece, line, text}
use Rattle.message_words.specs.Iso.{MessageData, iso_message_of, message_words, reply_code}
use Rattle.message_words.specs.Objects.{message_style, new_objects_words}
use Rattle.message_words.specs.declared.host.Settled.{Settled}
use Rattle.message_words.specs.declared.host.Settled.TheVariants.{Nothing, Presentment, Reversal}
use Rattle.message_words.specs.declared.phrases.TheConstants.{BOOKED, NO_OBJECTS, SET_FREE}

-- the objects of a message, where they are whole
abbrev pub whole_objects_words : Option (List (ℕ × List ℕ)) → List ℕ → List Piece
whole_objects_words known objects =
    if is_some (fault_of (items_of objects)) then text (codes ": ") ++ text NO_OBJECTS.now else new_objects_words known objects

-- a message of this name
abbrev pub named_message_words : List ℕ → Option (List (ℕ × List ℕ)) → List ℕ → Bool → List Piece
named_message_words name known objects brief = line 1 ++ text name ++ (if brief then [] else whole_objects_words known objects)

-- a request repeats what the first GENERATE AC had; no other message repeats any
abbrev pub request_or : List (ℕ × List ℕ) → Option (List ℕ) → List Piece → Bool → List Piece
request_or first None other brief = other
request_or first (Some objects) other brief = named_message_words (codes "request") (Some first) objects brief

abbrev pub named_or : List ℕ → Option (List ℕ) → List Piece → Bool → List Piece
named_or name None other brief = other
named_or name (Some objects) other brief = named_message_words name None objects brief

abbrev pub settlement_words : List ℕ → Bool → List Piece
settlement_words message brief =
    named_or (codes "presentment") (sole_value 0xE3 (items_of message)) (named_or (codes "reversal") (sole_value 0xE4 (items_of message)) [] brief) brief

-- a message of data objects
abbrev pub objects_call : List (ℕ × List ℕ) → List ℕ → Bool → List Piece
objects_call first message brief = request_or first (sole_value 0xE1 (items_of message)) (settlement_words message brief) brief

-- one with a type
abbrev pub repeats : List (ℕ × List ℕ) → ℕ → Option (List (ℕ × List ℕ))
repeats first kind = (if kind == 100 then Some first else None)

abbrev pub typed_call : List (ℕ × List ℕ) → MessageData → Bool → List Piece
typed_call first message brief = message_words (message_style 2 None) (repeats first message.kind) message brief

abbrev pub named_call_words : List (ℕ × List ℕ) → Option MessageData → List ℕ → Bool → List Piece
named_call_words first None bytes brief = objects_call first bytes brief
named_call_words first (Some message) bytes brief = typed_call first message brief

-- a message to the issuer, behind a first GENERATE AC that had these fields
unfoldable pub call_words : List (ℕ × List ℕ) → List ℕ → Bool → List Piece
call_words first bytes brief = named_call_words first (iso_message_of bytes) bytes brief

-- which message of the settlement it is
abbrev pub settled_by_type : ℕ → Settled
settled_by_type kind = (if kind == 220 then Presentment else if kind == 400 then Reversal else Nothing)

abbrev pub settled_by_tag : List ℕ → Settled
settled_by_tag bytes = (if slice_index bytes 0 == 0xE3 then Presentment else if slice_index bytes 0 == 0xE4 then Reversal else Nothing)

abbrev pub settled_of : Option MessageData → List ℕ → Settled
settled_of None bytes = settled_by_tag bytes
settled_of (Some message) bytes = settled_by_type message.kind

-- which message of the settlement these bytes are
unfoldable pub settled_by : List ℕ → Settled
settled_by bytes = settled_of (iso_message_of bytes) bytes

-- what the response code 00 says behind it
abbrev pub meaning : Settled → Option (List ℕ)
meaning Nothing = None
meaning Presentment = Some BOOKED.now
meaning Reversal = Some SET_FREE.now

-- a reply of data objects
abbrev pub whole_reply : Style → List ℕ → List Piece
whole_reply style reply =
    if is_some (fault_of (items_of reply)) then line 1 ++ text NO_OBJECTS.now else objects_words 8 style reply

abbrev pub objects_reply : Style → List ℕ → Bool → List Piece
objects_reply style reply brief = (if brief then [] else whole_reply style reply)

abbrev pub reply_by : Settled → Option MessageData → List ℕ → Bool → List Piece
reply_by settled None bytes brief = objects_reply (message_style 1 (meaning settled)) bytes brief
reply_by settled (Some message) bytes brief = message_words (message_style 2 (meaning settled)) None message brief

-- a reply of the issuer, behind this message of the settlement
unfoldable pub reply_words : Settled → List ℕ → Bool → List Piece
reply_words settled bytes brief = reply_by settled (iso_message_of bytes) bytes brief

-- the response code: of two bytes, in the object 8A
abbrev pub if_two : List ℕ → Option (List ℕ)
if_two value = (if length value == 2 then Some (slice_index value 0 ∷ slice_index value 1 ∷ []) else None)

abbrev pub code_if : Result (Option (List ℕ)) TlvFault → Option (List ℕ)
code_if (Ok (Some value)) = if_two value
code_if (Ok None) = None
code_if (Err fault) = None

abbrev pub code_among : List ℕ → Option (List ℕ)
code_among objects = code_if (found_value 0x8A (items_of objects))

abbrev pub code_within : Option (List ℕ) → Option (List ℕ)
code_within None = None
code_within (Some objects) = code_among objects

abbrev pub code_of_objects : List ℕ → Option (List ℕ)
code_of_objects reply = code_within (sole_value 0xE2 (items_of reply))

abbrev pub code_by : Option MessageData → List ℕ → Option (List ℕ)
code_by None bytes = code_of_objects bytes
code_by (Some message) bytes = reply_code message.rest

-- the response code of a reply, where it has one
unfoldable pub code_in : List ℕ → Option (List ℕ)
code_in bytes = code_by (iso_message_of bytes) bytes
