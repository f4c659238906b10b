-- What the definitions say of some lines, and of lines behind them.
use Rattle.std.proofs.Common.{◌≡◌, ℕ, List, [], false, None, codes, refl}
use Rattle.std.specs.Fmt.{digits}
use Rattle.apdu_core.specs.Command.{command_of}
use Rattle.apdu_core.specs.Response.{response_of}
use Rattle.report_lines.specs.References.{answer_reference, any_status_reference, command_reference}
use Rattle.report_lines.specs.Tables.{word_in}
use Rattle.hex.specs.Hex.{decode_pairs}
use Rattle.report_lines.specs.Lines.{line_closed, line_opened, line_begun, stage_of, next_stage}
use Rattle.report_lines.specs.Pieces.{with_piece, lines_of}
use Rattle.report_lines.specs.Bytes.{bytes_told}
use Rattle.report_lines.specs.Parts.{split_at, decimal_number}
use Rattle.report_lines.specs.Reading.{line_in}
use Rattle.value_words.specs.Statuses.{status_word, answer_word}
use Rattle.exchange_words.specs.Torn.{command_name, may_keep}
use Rattle.exchange_words.specs.Answers.{words_of_answer}
use Rattle.exchange_words.specs.Commands.{words_of_command, left_by_command}
use Rattle.narrator.specs.State.{Manner, StateData, start}
use Rattle.narrator.specs.Terminals.{row_for}
use Rattle.narrator.specs.Words.{words_by, state_by}

-- all words, and nothing is known of the terminals
abbrev whole : Manner
whole = record { filter = record { brief = false; why = false; books = false; ends = false; lane = None; purchase = None }; terminals = []; card_apps = []; accounts = [] }

-- the words of a text, and what it leaves
abbrev words_behind : StateData → List ℕ → List ℕ
words_behind state text = lines_of false (words_by whole state (line_in text))

abbrev after : List ℕ → StateData
after text = state_by whole start (line_in text)

pub card_gone : words_behind start (codes "L0 < gone") ≡ codes "  the card has no answer left: for the terminal it is gone\n"
unfolding line_in split_at decimal_number with_piece line_begun line_opened line_closed stage_of next_stage
card_gone = refl

pub record_read : words_behind start (codes "L3 > 00b2020c00") ≡ codes "  READ RECORD 2 of file 1\n"
unfolding line_in split_at decimal_number bytes_told decode_pairs row_for words_of_command command_of command_reference word_in digits with_piece line_begun line_opened line_closed stage_of next_stage
record_read = refl

-- a command leaves itself for the line behind it
pub record_torn : words_behind (after (codes "L3 > 00b2020c00")) (codes "L3 < torn") ≡ codes "  the card was pulled out before it had answered READ RECORD\n"
unfolding line_in split_at decimal_number bytes_told decode_pairs row_for left_by_command command_of command_name may_keep command_reference word_in with_piece line_begun line_opened line_closed stage_of next_stage
record_torn = refl

pub record_absent : words_behind (after (codes "L3 > 00b2020c00")) (codes "L3 < 6a83") ≡ codes "  6A83: no such record\n"
unfolding line_in split_at decimal_number bytes_told decode_pairs row_for left_by_command command_of words_of_answer response_of status_word answer_word answer_reference any_status_reference word_in with_piece line_begun line_opened line_closed stage_of next_stage
record_absent = refl
