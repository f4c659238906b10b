use Rattle.report_lines.specs.Pieces.{number}
use Rattle.report_lines.proofs.Telling.{tells_then}
use Rattle.purchase_reasons.specs.Approval.{within_or_above}
use Rattle.purchase_reasons.proofs.approval.tell_limit.Goals as goal

pub returns : goal.returns
returns c = tells_then _ _ _ (within_or_above c.args.is_within) (number c.args.limit) c.tell_within.ensures c.number.ensures
