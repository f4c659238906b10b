use Rattle.purchase_reasons.proofs.card.tell_by_issuer.Goals as goal

pub returns-in-RefusedByStatus : goal.returns-in-RefusedByStatus
returns-in-RefusedByStatus c = rw c.in-RefusedByStatus.is c.text-in-RefusedByStatus.ensures.told

pub returns-in-WrongCryptogram : goal.returns-in-WrongCryptogram
returns-in-WrongCryptogram c = rw c.in-WrongCryptogram.is c.text-in-WrongCryptogram.ensures.told

pub returns-in-NoCryptogram : goal.returns-in-NoCryptogram
returns-in-NoCryptogram c = rw c.in-NoCryptogram.is c.text-in-NoCryptogram.ensures.told

pub returns-in-NotDue : goal.returns-in-NotDue
returns-in-NotDue c = rw c.in-NotDue.is c.text-in-NotDue.ensures.told
