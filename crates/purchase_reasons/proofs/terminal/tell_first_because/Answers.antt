use Rattle.std.proofs.Common.{false, codes}
use Rattle.report_lines.specs.Pieces.{text}
use Rattle.report_lines.proofs.Telling.{tells_then}
use Rattle.purchase_reasons.specs.Reasons.{asked_because}
use Rattle.purchase_reasons.proofs.terminal.tell_first_because.Goals as goal

pub returns-in-Some : goal.returns-in-Some
returns-in-Some c =
    rw c.in-Some.is
    (tells_then _ _ _ (text (codes "it asked for ")) (asked_because c.args.asked c.in-Some.reason false (codes "--")) c.text.ensures.told c.tell_because.ensures)

pub returns-in-None : goal.returns-in-None
returns-in-None c = rw c.in-None.is c.text-in-None.ensures.told
