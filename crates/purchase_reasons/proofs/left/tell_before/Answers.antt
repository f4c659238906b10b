use Rattle.std.proofs.Common.{◌++◌, codes}
use Rattle.report_lines.specs.Pieces.{line, text}
use Rattle.report_lines.proofs.Telling.{tells_then}
use Rattle.purchase_reasons.proofs.left.tell_before.Goals as goal

pub returns-else-told : goal.returns-else-told
returns-else-told c =
    let first = text (codes "left on card ") in
    let card = text c.args.card.now in
    rw c.if-told.false
    (tells_then _ _ _ (line 1 ++ first ++ card) (text (codes ": "))
    (tells_then _ _ _ (line 1 ++ first) card (tells_then _ _ _ (line 1) first c.line.ensures c.text-else-told.ensures.told) c.text-else-told-2.ensures.told)
    c.text-else-told-3.ensures.told)
