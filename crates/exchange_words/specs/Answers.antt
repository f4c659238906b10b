-- Answers in words (EMV 4.3 Book 3 section 6.5).
use Rattle.std.specs.Prelude.{ℕ, ◌+◌, ◌-◌, ◌*◌, ◌/◌, ◌==◌, Bool, false, not, ◌&&◌, ◌||◌, nat_lt, nat_le, if◌then◌else◌, List, [], ◌++◌, length, take, drop, slice_index, codes, Option, Some, None, is_some}
use Rattle.std.specs.Str.{bytes_eq}
use Rattle.apdu_core.specs.Response.{ResponseData, response_of}
use Rattle.apdu_core.specs.Status.{no_error}
use Rattle.ber_tlv.specs.Direct.{sole_value}
use Rattle.ber_tlv.specs.Left.{items_of, fault_of}
use Rattle.object_words.specs.Objects.{plain, object_words, objects_words}
use Rattle.report_lines.specs.Pieces.{Piece, line, text, number}
use Rattle.exchange_words.specs.Kinds.{answered_kind_words, kind_answered, with_kind}
use Rattle.exchange_words.specs.Learned.{counter_in_body, with_counter, with_record, lane_with_selected}
use Rattle.value_words.specs.Statuses.{status_line}
use Rattle.exchange_words.specs.declared.lane.LaneState.{LaneState}

-- the instruction of a command; 0 where it has none
abbrev pub instruction_byte : List ℕ → ℕ
instruction_byte command = slice_index command 1

-- the tag of the one object that the answer to a command is: of SELECT, READ RECORD, GET PROCESSING OPTIONS and GENERATE AC
-- in format 2, and of GET DATA
abbrev pub asked_tag : List ℕ → Option ℕ
asked_tag command = (if nat_le 4 (length command) then Some (slice_index command 2 * 256 + slice_index command 3) else None)

abbrev pub answer_tag : List ℕ → Option ℕ
answer_tag command =
    if instruction_byte command == 0xA4 then Some 0x6F
    else if instruction_byte command == 0xB2 then Some 0x70
    else if instruction_byte command == 0xA8 || instruction_byte command == 0xAE then Some 0x77
    else if instruction_byte command == 0xCA then asked_tag command
    else None

abbrev pub is_sole : Option ℕ → List ℕ → Bool
is_sole None body = false
is_sole (Some tag) body = is_some (sole_value tag (items_of body))

abbrev pub has_form : List ℕ → List ℕ → Bool
has_form command body = is_sole (answer_tag command) body

abbrev pub unformed_words : Bool → List Piece
unformed_words has = (if has then [] else line 1 ++ text (codes "not of the form of this answer"))

abbrev pub body_objects_words : List ℕ → Bool → List Piece
body_objects_words body brief = (if brief then [] else objects_words 8 (plain 1) body)

-- the objects of a body, and whether they are not of the form that the command's answer has
abbrev pub body_words : List ℕ → List ℕ → Bool → List Piece
body_words command body brief =
    if is_some (fault_of (items_of body)) then line 1 ++ text (codes "no whole data objects")
    else body_objects_words body brief ++ unformed_words (has_form command body)

-- an object in a line of its own
abbrev pub one_words : ℕ → List ℕ → List Piece
one_words tag value = object_words (plain 1) tag value

-- format 1 of GET PROCESSING OPTIONS: the profile, and the locator behind it
abbrev pub options_one : List ℕ → Bool → Option (List Piece)
options_one value brief =
    if nat_lt (length value) 2 then None
    else Some (if brief then [] else one_words 0x82 (take 2 value) ++ one_words 0x94 (drop 2 value))

-- format 1 of GENERATE AC: the information data, the counter, the cryptogram, and the issuer application data behind them
abbrev pub cryptogram_one : List ℕ → Bool → Option (List Piece)
cryptogram_one value brief =
    if nat_lt (length value) 11 then None
    else Some (if brief then [] else
    one_words 0x9F27 (take 1 value) ++ one_words 0x9F36 (take 2 (drop 1 value))
    ++ one_words 0x9F26 (take 8 (drop 2 (drop 1 value))) ++ one_words 0x9F10 (drop 8 (drop 2 (drop 1 value))))

abbrev pub value_one : ℕ → Option (List ℕ) → Bool → Option (List Piece)
value_one instruction None brief = None
value_one instruction (Some value) brief =
    if instruction == 0xA8 then options_one value brief
    else if instruction == 0xAE then cryptogram_one value brief
    else None

-- a body of format 1; none where it is of another form
abbrev pub format_one : List ℕ → List ℕ → Bool → Option (List Piece)
format_one command body brief = value_one (instruction_byte command) (sole_value 0x80 (items_of body)) brief

abbrev pub told_body : List ℕ → List ℕ → Bool → Option (List Piece) → List Piece
told_body command body brief None = body_words command body brief
told_body command body brief (Some words) = words

-- how many transactions came behind the last one online, and the limits where both are known
abbrev pub limits_words : Option ℕ → Option ℕ → List Piece
limits_words None upper = []
limits_words (Some lower) None = []
limits_words (Some lower) (Some upper) =
    text (codes "; the limits 9F14 and 9F23 are ") ++ number lower ++ text (codes " and ") ++ number upper

abbrev pub transactions_since_words : LaneState → Option ℕ → Option ℕ → List Piece
transactions_since_words lane None counter = []
transactions_since_words lane (Some last_online) None = []
transactions_since_words lane (Some last_online) (Some counter) =
    line 2 ++ number (counter - last_online) ++ text (codes " transactions since then") ++ limits_words lane.lower lane.upper

-- of a counter that GET DATA gave: the distance of the two
abbrev pub since_online_words : LaneState → List ℕ → Bool → List Piece
since_online_words lane body brief = (if brief then [] else transactions_since_words lane (counter_in_body 0x9F13 body) lane.counter)

-- an answer to SELECT that was given before
abbrev pub is_same : LaneState → List ℕ → List ℕ → Bool
is_same lane command answer = instruction_byte command == 0xA4 && bytes_eq answer lane.selected.items

-- the file of READ RECORD, in the high five bits of P2
abbrev pub file_of : List ℕ → ℕ
file_of command = slice_index command 3 / 8

-- what a body leaves: that of SELECT, of READ RECORD in the files 1 to 10, whose objects a terminal takes (EMV 4.3 Book 3
-- section 10.2), and of GET DATA
abbrev pub left_by_new : LaneState → List ℕ → List ℕ → List ℕ → LaneState
left_by_new lane command answer body =
    if instruction_byte command == 0xA4 then lane_with_selected lane answer body
    else if instruction_byte command == 0xB2 then (if nat_le (file_of command) 10 then with_record lane body else lane)
    else if instruction_byte command == 0xCA then with_counter lane body
    else lane

abbrev pub left_by_body : LaneState → List ℕ → List ℕ → List ℕ → LaneState
left_by_body lane command answer body =
    if is_same lane command answer then lane else left_by_new lane command answer body

-- the words of a body, with what is known behind it
abbrev pub new_body : LaneState → List ℕ → List ℕ → Bool → List Piece
new_body lane command body brief =
    told_body command body brief (format_one command body brief)
    ++ (if instruction_byte command == 0xCA then since_online_words lane body brief else [])

abbrev pub words_of_body : LaneState → List ℕ → List ℕ → List ℕ → Bool → List Piece
words_of_body lane command answer body brief =
    if is_same lane command answer then line 1 ++ text (codes "the same answer as before")
    else new_body (left_by_new lane command answer body) command body brief

-- a status is told where it is not 9000, and where no body stands before it
abbrev pub status_told : ℕ → ResponseData → List Piece
status_told instruction response =
    if not (response.status == no_error) || length response.body == 0 then status_line instruction response.status else []

-- a body, where there is one, and what it leaves
abbrev pub body_told : LaneState → List ℕ → List ℕ → List ℕ → Bool → List Piece
body_told lane command answer body brief = (if length body == 0 then [] else words_of_body lane command answer body brief)

abbrev pub left_by_some : LaneState → List ℕ → List ℕ → List ℕ → LaneState
left_by_some lane command answer body = (if length body == 0 then lane else left_by_body lane command answer body)

-- a cryptogram: its kind
abbrev pub gives_cryptogram : List ℕ → ResponseData → Bool
gives_cryptogram command response = instruction_byte command == 0xAE && response.status == no_error

abbrev pub kind_told : LaneState → List ℕ → ResponseData → List Piece
kind_told lane command response = (if gives_cryptogram command response then answered_kind_words lane (kind_answered response.body) else [])

abbrev pub left_by_kind : LaneState → List ℕ → ResponseData → LaneState
left_by_kind lane command response = (if gives_cryptogram command response then with_kind lane (kind_answered response.body) else lane)

-- a response: its status, its body, and the kind of cryptogram that it gives
abbrev pub words_of_response : LaneState → List ℕ → List ℕ → ResponseData → Bool → List Piece
words_of_response lane command answer response brief =
    status_told (instruction_byte command) response ++ body_told lane command answer response.body brief
    ++ kind_told (left_by_some lane command answer response.body) command response

abbrev pub left_by_response : LaneState → List ℕ → List ℕ → ResponseData → LaneState
left_by_response lane command answer response = left_by_kind (left_by_some lane command answer response.body) command response

-- too few or too many bytes for one
abbrev pub no_response : List ℕ → List Piece
no_response answer = line 1 ++ (if nat_lt (length answer) 2 then text (codes "fewer than two bytes") else text (codes "more than 258 bytes"))

abbrev pub words_by_response : LaneState → List ℕ → List ℕ → Option ResponseData → Bool → List Piece
words_by_response lane command answer None brief = no_response answer
words_by_response lane command answer (Some response) brief = words_of_response lane command answer response brief

abbrev pub left_with_response : LaneState → List ℕ → List ℕ → Option ResponseData → LaneState
left_with_response lane command answer None = lane
left_with_response lane command answer (Some response) = left_by_response lane command answer response

-- an answer to this command, and what it leaves for the lines behind it
unfoldable pub words_of_answer : LaneState → List ℕ → List ℕ → Bool → List Piece
words_of_answer lane command answer brief = words_by_response lane command answer (response_of answer) brief

-- what an answer leaves for the lines behind it
unfoldable pub left_by_answer : LaneState → List ℕ → List ℕ → LaneState
left_by_answer lane command answer = left_with_response lane command answer (response_of answer)
