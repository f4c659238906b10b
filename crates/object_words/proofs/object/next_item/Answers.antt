use Rattle.std.proofs.Common.{sym}
use Rattle.object_words.proofs.Walking.{after-step, leading-fault}
use Rattle.object_words.proofs.object.next_item.Goals as goal

pub returns-in-Ok-clause-items : goal.returns-in-Ok-clause-items
returns-in-Ok-clause-items c = after-step _ _ _ _ c.in-Ok.found c.in-Ok.ensures.same_bytes c.in-Ok.ensures.item c.in-Ok.ensures.end

pub returns-in-Err-clause-items : goal.returns-in-Err-clause-items
returns-in-Err-clause-items c = sym (leading-fault _ _ _ c.in-Err.ensures.fault)
