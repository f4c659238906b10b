use Rattle.purchase_reasons.proofs.card.tell_card_reason.Goals as goal

pub returns-in-Blocked : goal.returns-in-Blocked
returns-in-Blocked c = rw c.in-Blocked.is c.text-in-Blocked.ensures.told
