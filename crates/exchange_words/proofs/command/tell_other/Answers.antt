use Rattle.std.proofs.Common.{List, ◌++◌, codes, sym, subst, ◌∙◌}
use Rattle.report_lines.specs.Pieces.{Piece, Tells, text}
use Rattle.report_lines.proofs.Telling.{tells_then}
use Rattle.value_words.specs.Plain.{or_nothing}
use Rattle.object_words.specs.Commands.{script_command_words}
use Rattle.apdu_core.specs.Seen.{seen_command}
use Rattle.exchange_words.specs.Commands.{command_cited, command_head, named_command_words}
use Rattle.exchange_words.proofs.Scripts.{script-named, script-unnamed}
use Rattle.exchange_words.proofs.command.tell_other.Goals as goal

pub returns-then-tell_script_command : goal.returns-then-tell_script_command
returns-then-tell_script_command c =
    let words = script_command_words c.args.bytes.now in
    let named = sym c.tell_script_command.ensures.told ∙ c.if-tell_script_command.true in
    let head = command_head (seen_command c.args.command.now) in
    let mark = text (codes " (issuer script)") in
    let cited = rw (c.from.ensures, c.from-then-tell_script_command.ensures) at c.tell_command_reference.ensures in
    subst (λ (w : List Piece). Tells c.args.out.now c.tell_command_reference.new.out w) (sym (script-named words head (named_command_words (seen_command c.args.command.now)) named))
    (tells_then _ _ _ (or_nothing words ++ mark) (command_cited head)
    (tells_then _ _ _ (or_nothing words) mark c.tell_script_command.ensures.words c.text.ensures.told) cited)

pub returns-else-tell_script_command : goal.returns-else-tell_script_command
returns-else-tell_script_command c =
    let words = script_command_words c.args.bytes.now in
    let name = named_command_words (seen_command c.args.command.now) in
    let unnamed = sym c.tell_script_command.ensures.told ∙ c.if-tell_script_command.false in
    subst (λ (w : List Piece). Tells c.args.out.now c.tell_command_name.new.out w) (sym (script-unnamed words (command_head (seen_command c.args.command.now)) name unnamed))
    (tells_then _ _ _ (or_nothing words) name c.tell_script_command.ensures.words c.tell_command_name.ensures)
