-- What the definitions say of some commands and answers.
use Rattle.std.proofs.Common.{◌≡◌, [], ◌∷◌, None, codes, true, false, refl}
use Rattle.std.specs.Fmt.{digits}
use Rattle.apdu_core.specs.Command.{command_of}
use Rattle.apdu_core.specs.Response.{response_of}
use Rattle.report_lines.specs.References.{answer_reference, any_status_reference, command_reference}
use Rattle.report_lines.specs.Tables.{word_in}
use Rattle.report_lines.specs.Lines.{line_closed, line_opened, line_begun, stage_of, next_stage}
use Rattle.report_lines.specs.Pieces.{with_piece, lines_of}
use Rattle.exchange_words.specs.Lanes.{fresh}
use Rattle.value_words.specs.Statuses.{status_word, answer_word}
use Rattle.exchange_words.specs.Answers.{words_of_answer}
use Rattle.exchange_words.specs.Commands.{words_of_command}

-- the second record of the file 1
pub record_read : lines_of false (words_of_command fresh (0x00 ∷ 0xB2 ∷ 0x02 ∷ 0x0C ∷ 0x00 ∷ []) None true) ≡ codes "  READ RECORD 2 of file 1\n"
unfolding digits words_of_command command_of command_reference word_in with_piece line_begun line_opened line_closed stage_of next_stage
record_read = refl

-- an application by its name
pub application_selected : lines_of false (words_of_command fresh (0x00 ∷ 0xA4 ∷ 0x04 ∷ 0x02 ∷ 0x02 ∷ 0xA0 ∷ 0x01 ∷ 0x00 ∷ []) None false) ≡ codes "  SELECT A001, next occurrence\n"
unfolding words_of_command command_of command_reference word_in with_piece line_begun line_opened line_closed stage_of next_stage
application_selected = refl

-- an answer without a status
pub answer_short : lines_of false (words_of_answer fresh (0x00 ∷ 0xB2 ∷ []) (0x6A ∷ []) true) ≡ codes "  fewer than two bytes\n"
unfolding words_of_answer response_of with_piece line_begun line_opened line_closed stage_of next_stage
answer_short = refl

-- a record that is not there
pub record_absent : lines_of false (words_of_answer fresh (0x00 ∷ 0xB2 ∷ []) (0x6A ∷ 0x83 ∷ []) true) ≡ codes "  6A83: no such record\n"
unfolding words_of_answer response_of status_word answer_word answer_reference any_status_reference word_in with_piece line_begun line_opened line_closed stage_of next_stage
record_absent = refl
