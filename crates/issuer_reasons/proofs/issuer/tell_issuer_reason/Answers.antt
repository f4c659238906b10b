use Rattle.issuer_reasons.proofs.issuer.tell_issuer_reason.Goals as goal

pub returns-in-Expired : goal.returns-in-Expired
returns-in-Expired c = rw c.in-Expired.is c.text-in-Expired.ensures.told

pub returns-in-WrongPin : goal.returns-in-WrongPin
returns-in-WrongPin c = rw c.in-WrongPin.is c.text-in-WrongPin.ensures.told

pub returns-in-AccountBlocked : goal.returns-in-AccountBlocked
returns-in-AccountBlocked c = rw c.in-AccountBlocked.is c.text-in-AccountBlocked.ensures.told

pub returns-in-OtherCode : goal.returns-in-OtherCode
returns-in-OtherCode c = rw c.in-OtherCode.is c.text-in-OtherCode.ensures.told
