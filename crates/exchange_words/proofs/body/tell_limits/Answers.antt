use Rattle.std.proofs.Common.{◌++◌, codes}
use Rattle.report_lines.specs.Pieces.{text, number}
use Rattle.report_lines.proofs.Telling.{tells_then}
use Rattle.exchange_words.proofs.body.tell_limits.Goals as goal

pub returns-in-Some-upper : goal.returns-in-Some-upper
returns-in-Some-upper c =
    let first = text (codes "; the limits 9F14 and 9F23 are ") in
    let lower = number c.in-Some.lower in
    let between = text (codes " and ") in
    rw (c.in-Some.is, c.in-Some-upper.is)
    (tells_then _ _ _ (first ++ lower ++ between) (number c.in-Some-upper.upper)
    (tells_then _ _ _ (first ++ lower) between (tells_then _ _ _ first lower c.text.ensures.told c.number.ensures) c.text-in-Some-upper.ensures.told)
    c.number-in-Some-upper.ensures)
