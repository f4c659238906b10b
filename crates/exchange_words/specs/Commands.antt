-- Commands in words (EMV 4.3 Book 3 section 6.5).
use Rattle.std.specs.Prelude.{ℕ, ◌+◌, ◌*◌, ◌/◌, ◌%◌, ◌==◌, Bool, false, ◌&&◌, nat_lt, nat_le, if◌then◌else◌, List, [], ◌∷◌, ◌++◌, length, map, codes, Option, Some, None, option_map, is_some, unwrap_or}
use Rattle.std.specs.Option.{option_or}
use Rattle.std.specs.Str.{bytes_eq}
use Rattle.value_words.specs.Reasons.{reason_of}
use Rattle.report_lines.specs.References.{command_reference}
use Rattle.value_words.specs.declared.asking.Asking.{Asking}
use Rattle.value_words.specs.declared.asking.Row.{Row}
use Rattle.apdu_core.specs.Command.{CommandData, command_of}
use Rattle.ber_tlv.specs.Direct.{sole_value}
use Rattle.ber_tlv.specs.Left.{items_of}
use Rattle.ber_tlv.specs.Written.{tag_bytes}
use Rattle.emv_dict.specs.Digits.{is_pin_length}
use Rattle.emv_dict.specs.Kinds.{kind_of}
use Rattle.emv_dict.specs.declared.ending.Kind.{Kind}
use Rattle.report_lines.specs.Tables.{word_in}
use Rattle.value_words.specs.declared.codes.TheConstants.{CRYPTOGRAMS}
use Rattle.value_words.specs.declared.names.Form.{Form}
use Rattle.value_words.specs.declared.names.Form.TheVariants.{Authentication}
use Rattle.object_words.specs.Commands.{script_command_words}
use Rattle.value_words.specs.Digits.{digits_in, digits_words}
use Rattle.value_words.specs.Fields.{fields_of, are_fitting, value_among}
use Rattle.object_words.specs.Objects.{name_of, plain, value_words}
use Rattle.value_words.specs.Plain.{binary_number, or_nothing}
use Rattle.object_words.specs.declared.style.ResultsStyle.TheVariants.{Codes}
use Rattle.object_words.specs.declared.style.Style.{Style}
use Rattle.report_lines.specs.Pieces.{Piece, line, text, number, hex, word_or, reference_or_none}
use Rattle.object_words.specs.Fields.{fields_words, new_fields_words}
use Rattle.exchange_words.specs.Because.{cited_reason}
use Rattle.exchange_words.specs.Lanes.{kept_if_short}
use Rattle.exchange_words.specs.declared.lane.LaneState.{LaneState}
use Rattle.exchange_words.specs.declared.phrases.TheConstants.{OTHER_COMMANDS}

-- where a command of this class and instruction stands
abbrev pub command_cited : ℕ → List Piece
command_cited head = reference_or_none (command_reference head)

-- SELECT (EMV 4.3 Book 1 section 11.3)
abbrev pub selected_name : List ℕ → List Piece
selected_name name =
    if bytes_eq name (codes "1PAY.SYS.DDF01") then text name ++ text (codes ", the payment system directory") else hex name

abbrev pub select_words : CommandData → List Piece
select_words command =
    line 1 ++ text (codes "SELECT ") ++ selected_name command.body ++ (if command.p2 == 2 then text (codes ", next occurrence") else [])

-- GET PROCESSING OPTIONS, and the fields of its data
abbrev pub options_data_words : List ℕ → Bool → Option (List ℕ) → List Piece
options_data_words pdol brief None = []
options_data_words pdol brief (Some bytes) =
    if length bytes == 0 then text (codes ": the card wants no data")
    else if brief then [] else fields_words (plain 2) pdol bytes

abbrev pub options_words : List ℕ → List ℕ → Bool → List Piece
options_words pdol body brief =
    line 1 ++ text (codes "GET PROCESSING OPTIONS") ++ command_cited 0x80A8 ++ options_data_words pdol brief (sole_value 0x83 (items_of body))

-- READ RECORD
abbrev pub record_words : CommandData → List Piece
record_words command =
    line 1 ++ text (codes "READ RECORD ") ++ number command.p1 ++ text (codes " of file ") ++ number (command.p2 / 8)

-- GET DATA, with the name of the object
abbrev pub name_words : Option (List ℕ × Form) → List Piece
name_words None = []
name_words (Some named) = text (codes " ") ++ text named.0

abbrev pub get_data_words : CommandData → List Piece
get_data_words command =
    let tag = command.p1 * 256 + command.p2 in
    line 1 ++ text (codes "GET DATA ") ++ hex (tag_bytes tag) ++ name_words (name_of tag)

-- a plaintext PIN block: its four to twelve digits, and their number in the low half byte before them (EMV 4.3 Book 3
-- section 6.5.12)
abbrev pub has_pin_digits : Option ℕ → ℕ → Bool
has_pin_digits None count = false
has_pin_digits (Some digits) count = digits == count

abbrev pub is_pin_block : ℕ → List ℕ → Bool
is_pin_block control digits =
    control / 16 == 2 && (is_pin_length (control % 16) && (length digits == 7 && has_pin_digits (digits_in digits) (control % 16)))

abbrev pub pin_words : List ℕ → List Piece
pin_words [] = []
pin_words (control ∷ digits) =
    (if is_pin_block control digits then text (codes ": plaintext PIN ") ++ or_nothing (digits_words digits) else [])

-- VERIFY
abbrev pub verify_words : List ℕ → Bool → List Piece
verify_words block brief = line 1 ++ text (codes "VERIFY") ++ command_cited 0x0020 ++ (if brief then [] else pin_words block)

-- EXTERNAL AUTHENTICATE
abbrev pub external_words : List ℕ → Bool → List Piece
external_words body brief =
    line 1 ++ text (codes "EXTERNAL AUTHENTICATE") ++ command_cited 0x0082
    ++ (if brief then [] else text (codes ": ") ++ value_words Authentication (plain 1) body)

-- a command of which the name alone is told, by its class and instruction
unfoldable pub name_of_command : ℕ → Option (List ℕ)
name_of_command head = word_in (map (λ w. (w.0, w.1.now)) OTHER_COMMANDS) head

abbrev pub command_head : CommandData → ℕ
command_head command = command.class * 256 + command.ins

abbrev pub name_and_reference : ℕ → Option (List ℕ) → List Piece
name_and_reference head None = []
name_and_reference head (Some name) = text name ++ command_cited head

abbrev pub named_command_words : CommandData → List Piece
named_command_words command = name_and_reference (command_head command) (name_of_command (command_head command))

-- a command of an issuer's script, or one of which the name alone is told
abbrev pub issuer_script_words : Option (List Piece) → ℕ → List Piece → List Piece
issuer_script_words None head name = name
issuer_script_words (Some words) head name = words ++ text (codes " (issuer script)") ++ command_cited head

abbrev pub other_command_words : List ℕ → CommandData → List Piece
other_command_words bytes command = issuer_script_words (script_command_words bytes) (command_head command) (named_command_words command)

-- the fields of the data of GENERATE AC: those of the second beside those of the first
abbrev pub question_style : LaneState → Option Row → Style
question_style lane row = record { level = 2; results = Codes (record { card = lane.codes; row = row }); answer = None }

abbrev pub question_fields : LaneState → List ℕ → Option Row → List Piece
question_fields lane bytes row =
    if lane.cryptograms == 0 then fields_words (question_style lane row) lane.cdol1.items bytes
    else new_fields_words (question_style lane row) lane.cdol2.items bytes (fields_of lane.cdol1.items lane.first.items) (is_some lane.code)

-- the terminal verification results in the data, where the list has them and wants just these data
abbrev pub sent_results : List ℕ → List ℕ → Option ℕ
sent_results list bytes = (if are_fitting list bytes then option_map binary_number (value_among 0x95 5 (fields_of list bytes)) else None)

abbrev pub question_results : LaneState → List ℕ → Option ℕ
question_results lane bytes = (if lane.cryptograms == 0 then sent_results lane.cdol1.items bytes else sent_results lane.cdol2.items bytes)

-- what is kept of the data: the results, and all of the first question
abbrev pub with_question : LaneState → List ℕ → LaneState
with_question lane bytes = record lane {
  results = option_or (question_results lane bytes) lane.results;
  first = (if lane.cryptograms == 0 then record { items = kept_if_short 255 bytes } else lane.first);
}

-- what is known as this kind is asked for
abbrev pub asking : LaneState → Kind → Option Row → Asking
asking lane kind row = record {
  asked = kind;
  second = nat_lt 0 lane.cryptograms;
  replied = is_some lane.code;
  results = lane.results;
  card = lane.codes;
  row = row;
}

-- and what is kept of it for the end line
abbrev pub with_reason : LaneState → Option Row → Option Kind → LaneState
with_reason lane row None = lane
with_reason lane row (Some kind) = record lane {
  reason = Some (reason_of (asking lane kind row));
  second = nat_lt 0 lane.cryptograms;
  asked = Some kind;
  answered = None;
}

abbrev pub because_words : LaneState → Option Row → Option Kind → List Piece
because_words lane row None = []
because_words lane row (Some kind) =
    line 1 ++ text (codes "because ")
    ++ cited_reason (reason_of (asking lane kind row)) (nat_lt 0 lane.cryptograms) (unwrap_or lane.code (codes "--"))

-- GENERATE AC: what is asked for, the fields of its data, and why (EMV 4.3 Book 3 sections 6.5.5 and 10.7)
abbrev pub question_head : LaneState → List Piece
question_head lane =
    line 1 ++ (if lane.cryptograms == 0 then text (codes "GENERATE AC, the first: asks for ") else text (codes "GENERATE AC, the second: asks for "))

abbrev pub cryptogram_question_words : LaneState → CommandData → Option Row → Bool → List Piece
cryptogram_question_words lane command row brief =
    question_head lane ++ word_or [] (word_in (map (λ w. (w.0, w.1.now)) CRYPTOGRAMS) (command.p1 / 64 * 64)) ++ command_cited 0x80AE
    ++ (if brief then [] else question_fields lane command.body row)

abbrev pub question_words : LaneState → CommandData → Option Row → Bool → List Piece
question_words lane command row brief =
    cryptogram_question_words lane command row brief ++ because_words (with_question lane command.body) row (kind_of command.p1)

-- a command of the class 00, and one of the class 80
abbrev pub common_words : CommandData → Bool → List Piece
common_words command brief =
    if command.ins == 0xA4 then select_words command ++ command_cited 0x00A4
    else if command.ins == 0xB2 then record_words command ++ command_cited 0x00B2
    else if command.ins == 0x20 then verify_words command.body brief
    else if command.ins == 0x82 then external_words command.body brief
    else named_command_words command

abbrev pub own_words : LaneState → CommandData → Option Row → Bool → List Piece
own_words lane command row brief =
    if command.ins == 0xA8 then options_words lane.pdol.items command.body brief
    else if command.ins == 0xCA then get_data_words command ++ command_cited 0x80CA
    else if command.ins == 0xAE then question_words lane command row brief
    else named_command_words command

-- a command: by its class and instruction, or as one of a script; nothing where it is no command
abbrev pub words_of : LaneState → List ℕ → Option CommandData → Option Row → Bool → List Piece
words_of lane bytes None row brief = []
words_of lane bytes (Some command) row brief =
    if command.class == 0x00 then common_words command brief
    else if command.class == 0x80 then own_words lane command row brief
    else other_command_words bytes command

-- a command in words, by its class and instruction, or as one of a script
unfoldable pub words_of_command : LaneState → List ℕ → Option Row → Bool → List Piece
words_of_command lane bytes row brief = words_of lane bytes (command_of bytes) row brief

-- what a command leaves: itself; GENERATE AC its data and why it was sent
abbrev pub left_own : LaneState → CommandData → Option Row → LaneState
left_own lane command row =
    if command.ins == 0xAE then with_reason (with_question lane command.body) row (kind_of command.p1) else lane

abbrev pub lane_behind_command : LaneState → Option CommandData → Option Row → LaneState
lane_behind_command lane None row = lane
lane_behind_command lane (Some command) row = (if command.class == 0x80 then left_own lane command row else lane)

-- what a command leaves for the lines behind it
unfoldable pub left_by_command : LaneState → List ℕ → Option Row → LaneState
left_by_command lane bytes row = lane_behind_command (record lane { command = record { items = kept_if_short 261 bytes } }) (command_of bytes) row
