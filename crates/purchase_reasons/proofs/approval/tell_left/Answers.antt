use Rattle.purchase_reasons.proofs.approval.tell_left.Goals as goal

pub returns-else-failed : goal.returns-else-failed
returns-else-failed c = rw c.if-failed.false c.text-else-failed.ensures.told
