use Rattle.std.proofs.Common.{◌++◌, codes}
use Rattle.report_lines.specs.Pieces.{text}
use Rattle.report_lines.proofs.Telling.{tells_then}
use Rattle.purchase_reasons.specs.Left.{left_of_limit, second_left}
use Rattle.purchase_reasons.proofs.left.tell_limits_left.Goals as goal

pub returns : goal.returns
returns c =
    let counters = c.args.counters.now in
    let limits = c.args.limits.now in
    let first = text (codes "offline approvals ") in
    let count = left_of_limit counters.count limits.count in
    let between = text (codes ", sum ") in
    let sum = left_of_limit counters.sum limits.sum in
    tells_then _ _ _ (first ++ count ++ between ++ sum) (second_left counters limits limits.second_currency)
    (tells_then _ _ _ (first ++ count ++ between) sum
    (tells_then _ _ _ (first ++ count) between (tells_then _ _ _ first count c.text.ensures.told c.tell_left_of.ensures) c.text-2.ensures.told)
    c.tell_left_of-2.ensures)
    c.tell_second.ensures
