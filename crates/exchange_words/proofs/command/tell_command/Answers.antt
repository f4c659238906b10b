use Rattle.std.proofs.Common.{List, ℕ, ap, subst, ◌∙◌}
use Rattle.apdu_core.specs.Command.{command_of}
use Rattle.report_lines.specs.Pieces.{Piece, Tells}
use Rattle.exchange_words.specs.Commands.{left_by_command, lane_behind_command}
use Rattle.exchange_words.proofs.Asking.{words-kept}
use Rattle.exchange_words.proofs.command.tell_command.Goals as goal

pub returns-clause-words : goal.returns-clause-words
returns-clause-words c =
    subst (λ (words : List Piece). Tells c.args.out.now c.tell_known.new.out words)
    (words-kept c.args.lane.now c.keep.new.kept c.args.bytes.now c.args.row c.args.brief) c.tell_known.ensures.words

pub returns-clause-left : goal.returns-clause-left
unfolding left_by_command
returns-clause-left c =
    c.tell_known.ensures.left
    ∙ ap (λ (items : List ℕ). lane_behind_command (record c.args.lane.now { command = record { items = items } }) (command_of c.args.bytes.now) c.args.row) c.keep.ensures
