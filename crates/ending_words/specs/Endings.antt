-- Endings in words.
use Rattle.std.specs.Prelude.{ℕ, zero, suc, ◌+◌, ◌-◌, ◌*◌, ◌/◌, ◌%◌, ◌^◌, ◌==◌, Bool, true, false, not, ◌&&◌, ◌||◌, nat_le, if◌then◌else◌, min, List, [], ◌++◌, length, map, slice_index, take, drop, codes, Option, Some, None, option_map, unwrap_or}
use Rattle.std.specs.List.{fold, list_all}
use Rattle.std.specs.Int.{to_be_bytes, w32}
use Rattle.std.specs.Str.{bytes_eq}
use Rattle.report_lines.specs.Pieces.{Piece, line, text, number, hex, word_or, reference, reference_or_none}
use Rattle.report_lines.specs.References.{cause_reference}
use Rattle.report_lines.specs.declared.references.TheConstants.{CUT, STATUS_REFERENCES}
use Rattle.report_lines.specs.Bits.{bits_between}
use Rattle.report_lines.specs.Tables.{word_in, text_in}
use Rattle.value_words.specs.Words.{tag_name_in}
use Rattle.value_words.specs.declared.bits.TheConstants.{STATUS_BITS}
use Rattle.value_words.specs.declared.codes.TheConstants.{CAUSES, CRYPTOGRAMS, STEPS}
use Rattle.value_words.specs.declared.names.Form.{Form}
use Rattle.value_words.specs.declared.names.TheConstants.{NAMES}
use Rattle.emv_dict.specs.declared.ending.Kind.{Kind}
use Rattle.exchange_words.specs.Because.{cited_reason}
use Rattle.value_words.specs.declared.reason.Reason.{Reason}
use Rattle.object_words.specs.Bits.{bit_word}
use Rattle.object_words.specs.Issuer.{response_words}
use Rattle.object_words.specs.Results.{results_words}
use Rattle.value_words.specs.Lists.{performed_rule}
use Rattle.value_words.specs.Statuses.{status_words, kind_name}
use Rattle.exchange_words.specs.declared.lane.LaneState.{LaneState}
use Rattle.report_lines.specs.Reading.{EndingData, Approved, Declined, Terminated, Cut, EndLineFields}
use Rattle.ending_words.specs.declared.phrases.TheConstants.{ENDED_AT, PULLED_OUT, CARD_ANSWERED, ASKED_FOR, ALL_CARRIED_OUT, NO_SCRIPT}

-- a lower-case hexadecimal digit
abbrev pub is_hex_digit : ℕ → Bool
is_hex_digit byte = (nat_le 48 byte && nat_le byte 57) || (nat_le 97 byte && nat_le byte 102)

abbrev pub hex_digit : ℕ → ℕ
hex_digit byte = (if nat_le byte 57 then byte - 48 else byte - 87)

-- the number of such digits, or the greatest of 64 bits where it is above that
abbrev pub hex_digits_number : List ℕ → ℕ
hex_digits_number digits = min (fold (λ n digit. n * 16 + hex_digit digit) 0 digits) (2 ^ 64 - 1)

-- the number of 1 to 16 such digits
unfoldable pub hex_number : List ℕ → Option ℕ
hex_number digits =
    if not (length digits == 0) && (nat_le (length digits) 16 && list_all is_hex_digit digits) then Some (hex_digits_number digits) else None

-- the words of a step, or the step itself
unfoldable pub step_in_words : List ℕ → Option (List ℕ)
step_in_words step = text_in (map (λ w. (w.0.now, w.1.now)) STEPS) step

abbrev pub named_step_words : List ℕ → List Piece
named_step_words step = word_or (text step) (step_in_words step)

-- the words of a cause, or the cause itself
unfoldable pub cause_word : List ℕ → Option (List ℕ)
cause_word cause = text_in (map (λ w. (w.0.now, w.1.now)) CAUSES) cause

abbrev pub cause_words : List ℕ → List Piece
cause_words cause = word_or (text cause) (cause_word cause)

-- the instruction whose answers a step reads; 0 where a step reads those of none, or of several
abbrev pub step_instruction : List ℕ → ℕ
step_instruction step =
    if bytes_eq step (codes "select") then 0xA4
    else if bytes_eq step (codes "initiate") then 0xA8
    else if bytes_eq step (codes "read") then 0xB2
    else if bytes_eq step (codes "first") || bytes_eq step (codes "second") then 0xAE
    else 0

abbrev pub word_behind_blank : Option (List ℕ) → List Piece
word_behind_blank None = []
word_behind_blank (Some word) = text (codes " ") ++ text word

-- the name of the tag of this number
unfoldable pub tag_name : ℕ → Option (List ℕ × Form)
tag_name tag = tag_name_in (map (λ n. (n.0, n.1.now, n.2)) NAMES) tag

abbrev pub tag_name_words : ℕ → List Piece
tag_name_words tag = word_behind_blank (option_map (λ named. named.0) (tag_name (tag % 2 ^ 24)))

-- the word of a kind of cryptogram
abbrev pub ended_kind_words : ℕ → List Piece
ended_kind_words byte = word_behind_blank (word_in (map (λ w. (w.0, w.1.now)) CRYPTOGRAMS) (byte % 256 / 64 * 64))

abbrev pub names_tag : List ℕ → Bool
names_tag cause = bytes_eq cause (codes "repeated") || bytes_eq cause (codes "missing") || bytes_eq cause (codes "value") || bytes_eq cause (codes "dol")

-- what a cause's number names: a status, a kind or a tag
abbrev pub detail_words : List ℕ → List ℕ → Option ℕ → List Piece
detail_words step cause None = []
detail_words step cause (Some n) =
    if bytes_eq cause (codes "status") then text (codes " ") ++ status_words (step_instruction step) (n % 65536)
    else if bytes_eq cause (codes "kind") then ended_kind_words n
    else if names_tag cause then tag_name_words n
    else []

abbrev pub in_brackets : List ℕ → List ℕ → List ℕ → List Piece
in_brackets step cause detail =
    if length detail == 0 then [] else text (codes " (") ++ text detail ++ detail_words step cause (hex_number detail) ++ text (codes ")")

-- an end in a step, for a cause, and where that stands
abbrev pub terminated_words : List ℕ → List ℕ → List ℕ → List Piece
terminated_words step cause detail =
    line 1 ++ text ENDED_AT.now ++ named_step_words step ++ text (codes ": ") ++ cause_words cause ++ in_brackets step cause detail
    ++ reference_or_none (cause_reference step cause detail)

-- an ending that is no decision
abbrev pub break_words : EndingData → List Piece
break_words (Cut step) = line 1 ++ text PULLED_OUT.now ++ named_step_words step ++ reference CUT.now
break_words (Terminated step cause detail) = terminated_words step cause detail
break_words Approved = []
break_words Declined = []

abbrev pub answered_words : Option Kind → List Piece
answered_words None = []
answered_words (Some answered) = text CARD_ANSWERED.now ++ text (kind_name answered)

-- what was asked for last and why, and what was answered
abbrev pub decided_words : Kind → Reason → LaneState → List Piece
decided_words asked reason lane =
    line 1 ++ text ASKED_FOR.now ++ text (kind_name asked) ++ text (codes " because ")
    ++ cited_reason reason lane.second (unwrap_or lane.code (codes "--")) ++ answered_words lane.answered

abbrev pub decision_words : Option Kind → Option Reason → LaneState → List Piece
decision_words None reason lane = []
decision_words (Some asked) None lane = []
decision_words (Some asked) (Some reason) lane = decided_words asked reason lane

-- how a payment ended
abbrev pub ending_words : LaneState → EndingData → List Piece
ending_words lane Approved = decision_words lane.asked lane.reason lane
ending_words lane Declined = decision_words lane.asked lane.reason lane
ending_words lane (Cut step) = break_words (Cut step)
ending_words lane (Terminated step cause detail) = terminated_words step cause detail

-- a bit of the transaction status information by its place among 16
abbrev pub performed_word : ℕ → List Piece
performed_word place =
    bit_word (map (λ w. (w.0, w.1.now)) STATUS_BITS) (map (λ w. (w.0, w.1.now)) STATUS_REFERENCES) (place / 8 + 1) (8 - place % 8)

abbrev pub performed_bits : ℕ → List Piece
performed_bits status = bits_between 16 (text (codes ", ")) performed_word status

abbrev pub performed_words : ℕ → List Piece
performed_words status = (if status % 65536 == 0 then text (codes "no bit") else performed_bits status)

-- a code that approves: the issuer's, or the terminal's
abbrev pub is_approving : List ℕ → Bool
is_approving code = bytes_eq code (codes "00") || (bytes_eq code (codes "Y1") || bytes_eq code (codes "Y3"))

-- where such a purchase is declined, the card declined it
abbrev pub decliner_words : Bool → List ℕ → List Piece
decliner_words declined code = (if declined && is_approving code then text (codes "; the card declined") else [])

-- the response code, where there is one
abbrev pub response_line_words : Bool → List ℕ → List Piece
response_line_words declined code =
    if bytes_eq code (codes "--") then []
    else if length code == 2
    then line 1 ++ text (codes "code ") ++ text code ++ text (codes ": ") ++ response_words (slice_index code 0 * 256 + slice_index code 1) ++ decliner_words declined code
    else []

-- the sequence number of the command that failed; 15 stands for that and each later one
abbrev pub failed_words : ℕ → List Piece
failed_words command = text (codes ": command ") ++ number command ++ (if command == 15 then text (codes " or later failed") else text (codes " failed"))

abbrev pub script_result : ℕ → ℕ → List Piece
script_result kind command =
    if kind == 2 then text ALL_CARRIED_OUT.now
    else if kind == 1 then failed_words command
    else text NO_SCRIPT.now

-- the result of a script: five bytes as one number, the first half byte its kind (EMV 4.3 Book 4 Annex A5)
unfoldable pub script_result_words : ℕ → List Piece
script_result_words bytes =
    let first = bytes / 2 ^ 32 % 256 in
    line 1 ++ text (codes "script ") ++ hex (to_be_bytes w32 (bytes % 2 ^ 32)) ++ script_result (first / 16) (first % 16)

abbrev pub tvr_words : Option ℕ → List Piece
tvr_words None = []
tvr_words (Some results) = line 1 ++ text (codes "TVR ") ++ results_words results

abbrev pub tsi_words : Option ℕ → List Piece
tsi_words None = []
tsi_words (Some status) = line 1 ++ text (codes "TSI ") ++ performed_words status

abbrev pub end_bits : EndLineFields → Bool → List Piece
end_bits f true = []
end_bits f false = tvr_words (hex_number f.tvr) ++ tsi_words (hex_number f.tsi)

abbrev pub reached_words : ℕ → List Piece
reached_words cvm = (if cvm == 0 then text (codes "not reached") else performed_rule (cvm / 65536 % 256) (cvm / 256 % 256) (cvm % 256))

-- the result of cardholder verification: three bytes as one number
unfoldable pub verification_line_words : ℕ → List Piece
verification_line_words cvm = line 1 ++ text (codes "CVM ") ++ reached_words cvm

abbrev pub cvm_words : Option ℕ → List Piece
cvm_words None = []
cvm_words (Some cvm) = verification_line_words cvm

abbrev pub script_told : Option ℕ → List Piece
script_told None = []
script_told (Some bytes) = script_result_words bytes

-- the results of scripts, ten digits each; there are `most` of them at most
unfoldable pub scripts_within : ℕ → List ℕ → List Piece
scripts_within zero text = []
scripts_within (suc most) text =
    if nat_le 10 (length text) then script_told (hex_number (take 10 text)) ++ scripts_within most (drop 10 text) else []

abbrev pub scripts_words : List ℕ → List Piece
scripts_words text = scripts_within (length text) text

abbrev pub is_nothing : Option ℕ → Bool
is_nothing None = false
is_nothing (Some number) = number == 0

-- no step has set anything
abbrev pub has_set_nothing : EndLineFields → Bool
has_set_nothing f =
    is_nothing (hex_number f.tvr) && (is_nothing (hex_number f.tsi) && (is_nothing (hex_number f.cvm)
    && (bytes_eq f.arc (codes "--") && bytes_eq f.scripts (codes "-"))))

-- the fields of an end line that some step has set
unfoldable pub set_fields : Bool → EndLineFields → Bool → List Piece
set_fields declined f brief = end_bits f brief ++ cvm_words (hex_number f.cvm) ++ response_line_words declined f.arc ++ scripts_words f.scripts

-- whether the purchase is declined
abbrev pub ends_declined : EndingData → Bool
ends_declined Declined = true
ends_declined Approved = false
ends_declined (Terminated step cause detail) = false
ends_declined (Cut step) = false

-- the fields of an end line
abbrev pub end_fields : Bool → EndLineFields → Bool → List Piece
end_fields declined f brief = (if has_set_nothing f then [] else set_fields declined f brief)

-- an end line, behind what the lane's lines before it left
abbrev pub end_words : LaneState → EndingData → EndLineFields → Bool → List Piece
end_words lane ending fields brief = ending_words lane ending ++ end_fields (ends_declined ending) fields brief
