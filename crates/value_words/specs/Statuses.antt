-- Statuses and kinds of cryptogram in words (EMV 4.3 Book 3 sections 6.3.5 and 6.5).
use Rattle.std.specs.Prelude.{ℕ, ◌+◌, ◌*◌, ◌/◌, ◌%◌, ◌==◌, if◌then◌else◌, List, [], ◌∷◌, ◌++◌, map, codes, Option, Some, None}
use Rattle.report_lines.specs.Pieces.{Piece, line, text, number, hex, word_or, reference, reference_or_none}
use Rattle.apdu_core.specs.Status.{status_counter}
use Rattle.report_lines.specs.References.{status_reference}
use Rattle.report_lines.specs.declared.references.TheConstants.{TRIES_LEFT}
use Rattle.report_lines.specs.Tables.{word_in}
use Rattle.value_words.specs.declared.codes.TheConstants.{ANSWERS, STATUSES}
use Rattle.emv_dict.specs.declared.ending.Kind.{Kind}
use Rattle.emv_dict.specs.declared.ending.Kind.TheVariants.{Aac, Tc, Arqc}
use Rattle.value_words.specs.declared.phrases.TheConstants.{WRONG_PIN}

-- the tries that a status of VERIFY leaves
abbrev pub tries_in : ℕ → ℕ → Option ℕ
tries_in instruction status = (if instruction == 0x20 then status_counter status else None)

-- the words of a status of any command, and those of one command: the instruction, then the status
unfoldable pub status_word : ℕ → Option (List ℕ)
status_word status = word_in (map (λ w. (w.0, w.1.now)) STATUSES) status

unfoldable pub answer_word : ℕ → Option (List ℕ)
answer_word code = word_in (map (λ w. (w.0, w.1.now)) ANSWERS) code

-- a wrong PIN, or a status of any command
abbrev pub other_status_words : ℕ → Option ℕ → List Piece
other_status_words status (Some left) = text WRONG_PIN.now ++ number left ++ reference TRIES_LEFT.now
other_status_words status None = word_or (text (codes "not known")) (status_word status)

-- a status behind a command of this instruction, that command's own words first; and where it stands
abbrev pub status_words : ℕ → ℕ → List Piece
status_words instruction status =
    word_or (other_status_words status (tries_in instruction status)) (answer_word (instruction * 65536 + status))
    ++ reference_or_none (status_reference instruction status)

-- a status in a line of its own
abbrev pub status_line : ℕ → ℕ → List Piece
status_line instruction status = line 1 ++ hex (status / 256 ∷ status % 256 ∷ []) ++ text (codes ": ") ++ status_words instruction status

-- the short name of a kind
abbrev pub kind_name : Kind → List ℕ
kind_name Aac = codes "AAC"
kind_name Tc = codes "TC"
kind_name Arqc = codes "ARQC"
