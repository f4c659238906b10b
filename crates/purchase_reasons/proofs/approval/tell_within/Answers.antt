use Rattle.purchase_reasons.proofs.approval.tell_within.Goals as goal

pub returns-then-is_within : goal.returns-then-is_within
returns-then-is_within c = rw c.if-is_within.true c.text.ensures.told

pub returns-else-is_within : goal.returns-else-is_within
returns-else-is_within c = rw c.if-is_within.false c.text-else-is_within.ensures.told
