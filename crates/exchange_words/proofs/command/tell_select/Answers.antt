use Rattle.std.proofs.Common.{◌≡◌, ◌++◌, ◌==◌, true, codes, arith}
use Rattle.std.proofs.lemmas.Bool.Decides.{nat_tests}
use Rattle.report_lines.specs.Pieces.{line, text}
use Rattle.report_lines.proofs.Telling.{tells_then}
use Rattle.exchange_words.specs.Commands.{selected_name}
use Rattle.exchange_words.proofs.command.tell_select.Goals as goal

pub returns-then-command-eq2 : goal.returns-then-command-eq2
returns-then-command-eq2 c =
    let name = selected_name c.args.command.now.body.now in
    let first = text (codes "SELECT ") in
    let next : (c.args.command.now.p2 == 2) ≡ true = grind (arith, nat_tests) in
    rw next
    (tells_then _ _ _ (line 1 ++ first ++ name) (text (codes ", next occurrence"))
    (tells_then _ _ _ (line 1 ++ first) name (tells_then _ _ _ (line 1) first c.line.ensures c.text.ensures.told) c.tell_selected_name.ensures)
    c.text-then-command-eq2.ensures.told)
