use Rattle.std.proofs.Common.{true, codes, unwrap_or}
use Rattle.report_lines.specs.Pieces.{text}
use Rattle.report_lines.proofs.Telling.{tells_then}
use Rattle.purchase_reasons.specs.Reasons.{asked_because}
use Rattle.purchase_reasons.proofs.terminal.tell_then.Goals as goal

pub returns-in-Some-reason : goal.returns-in-Some-reason
returns-in-Some-reason c =
    let because = rw c.unwrap_or.ensures at c.tell_because.ensures in
    rw (c.in-Some.is, c.in-Some-reason.is)
    (tells_then _ _ _ (text (codes ", then for ")) (asked_because c.in-Some.asked c.in-Some-reason.reason true (unwrap_or c.args.talk.now.code (codes "--")))
    c.text.ensures.told because)
