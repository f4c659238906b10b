use Rattle.std.proofs.Common.{◌++◌, codes}
use Rattle.report_lines.specs.Pieces.{text, number}
use Rattle.report_lines.proofs.Telling.{tells_then}
use Rattle.purchase_reasons.specs.Approval.{has_failed_authentication, left_words}
use Rattle.purchase_reasons.proofs.approval.tell_counted.Goals as goal

pub returns-then-not-all : goal.returns-then-not-all
returns-then-not-all c =
    let counters = c.args.counters.now in
    let first = text (codes "; it had counted offline approvals ") in
    let count = number counters.count in
    let between = text (codes ", sum ") in
    let sum = number counters.sum in
    let left = rw c.has_failed.ensures at c.tell_left.ensures in
    rw c.if-not-all.true
    (tells_then _ _ _ (first ++ count ++ between ++ sum) (left_words (has_failed_authentication counters))
    (tells_then _ _ _ (first ++ count ++ between) sum
    (tells_then _ _ _ (first ++ count) between (tells_then _ _ _ first count c.text.ensures.told c.number.ensures) c.text-2.ensures.told)
    c.number-2.ensures)
    left)

pub returns-else-not-all : goal.returns-else-not-all
returns-else-not-all c =
    let counters = c.args.counters.now in
    let first = text (codes "; it had counted offline approvals ") in
    let count = number counters.count in
    let between = text (codes ", sum ") in
    let sum = number counters.sum in
    rw c.if-not-all.false
    (tells_then _ _ _ (first ++ count ++ between) sum
    (tells_then _ _ _ (first ++ count) between (tells_then _ _ _ first count c.text.ensures.told c.number.ensures) c.text-2.ensures.told)
    c.number-2.ensures)
