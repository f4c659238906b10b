use Rattle.std.proofs.Common.{◌+◌, nat_le, ◌++◌, codes}
use Rattle.report_lines.specs.Pieces.{text, number}
use Rattle.report_lines.proofs.Telling.{tells_then}
use Rattle.purchase_reasons.specs.Approval.{within_words}
use Rattle.purchase_reasons.proofs.approval.tell_sum.Goals as goal

pub returns : goal.returns
returns c =
    let first = text (codes "; their sum ") in
    let sum = number c.args.sum in
    let plus = text (codes " + ") in
    let amount = number c.args.amount in
    let is = text (codes " is ") in
    let within = rw c.is_sum_within.ensures at c.tell_limit.ensures in
    tells_then _ _ _ (first ++ sum ++ plus ++ amount ++ is) (within_words (nat_le (c.args.sum + c.args.amount) c.args.limit) c.args.limit)
    (tells_then _ _ _ (first ++ sum ++ plus ++ amount) is
    (tells_then _ _ _ (first ++ sum ++ plus) amount
    (tells_then _ _ _ (first ++ sum) plus (tells_then _ _ _ first sum c.text.ensures.told c.number.ensures) c.text-2.ensures.told)
    c.number-2.ensures)
    c.text-3.ensures.told)
    within
