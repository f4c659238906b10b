use Rattle.issuer_reasons.proofs.issuer.tell_at_most.Goals as goal

pub returns-then-is_unsure : goal.returns-then-is_unsure
returns-then-is_unsure c = rw c.if-is_unsure.true c.text.ensures.told
