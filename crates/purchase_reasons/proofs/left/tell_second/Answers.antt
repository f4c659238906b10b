use Rattle.std.proofs.Common.{◌++◌, codes, unwrap_or}
use Rattle.report_lines.specs.Pieces.{text}
use Rattle.report_lines.proofs.Telling.{tells_then}
use Rattle.issuer_reasons.specs.Wanted.{currency_words}
use Rattle.purchase_reasons.specs.Left.{left_of_limit}
use Rattle.purchase_reasons.proofs.left.tell_second.Goals as goal

pub returns-in-Some : goal.returns-in-Some
returns-in-Some c =
    let first = text (codes ", sum in ") in
    let currency = currency_words c.in-Some.currency in
    let blank = text (codes " ") in
    let left = rw c.unwrap_or.ensures at c.tell_left_of.ensures in
    rw c.in-Some.is
    (tells_then _ _ _ (first ++ currency ++ blank) (left_of_limit (unwrap_or c.args.counters.now.second 0) c.args.limits.now.second_sum)
    (tells_then _ _ _ (first ++ currency) blank (tells_then _ _ _ first currency c.text.ensures.told c.tell_currency.ensures) c.text-in-Some.ensures.told)
    left)
