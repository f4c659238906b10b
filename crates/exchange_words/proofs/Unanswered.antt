-- What the definitions say of some statuses and commands.
use Rattle.std.proofs.Common.{◌≡◌, false, [], ◌∷◌, codes, refl}
use Rattle.report_lines.specs.References.{answer_reference, any_status_reference, command_reference}
use Rattle.report_lines.specs.Tables.{word_in}
use Rattle.std.specs.Fmt.{digits}
use Rattle.report_lines.specs.Lines.{line_closed, line_opened, line_begun, stage_of, next_stage}
use Rattle.report_lines.specs.Pieces.{with_piece, lines_of}
use Rattle.value_words.specs.Statuses.{status_line, status_word, answer_word}
use Rattle.exchange_words.specs.Torn.{torn_words, command_name, may_keep}

-- a wrong PIN with two tries left
pub wrong_pin : lines_of false (status_line 0x20 0x63C2) ≡ codes "  63C2: wrong PIN, tries left 2\n"
unfolding digits status_word answer_word answer_reference any_status_reference word_in with_piece line_begun line_opened line_closed stage_of next_stage
wrong_pin = refl

-- a card that is pulled out while it verifies a PIN
pub torn_verify : lines_of false (torn_words (0x00 ∷ 0x20 ∷ []))
    ≡ codes "  the card was pulled out before it had answered VERIFY; its next power line tells whether that was kept\n"
unfolding command_name may_keep command_reference word_in with_piece line_begun line_opened line_closed stage_of next_stage
torn_verify = refl

-- and while it reads a record
pub torn_read : lines_of false (torn_words (0x00 ∷ 0xB2 ∷ [])) ≡ codes "  the card was pulled out before it had answered READ RECORD\n"
unfolding command_name may_keep command_reference word_in with_piece line_begun line_opened line_closed stage_of next_stage
torn_read = refl
