use Rattle.std.proofs.Common.{◌∙◌}
use Rattle.kernel.proofs.Showing.{bytes_are_told}
use Rattle.kernel.proofs.kernel.Kernel.bytes.Goals as goal

pub returns-clause-told : goal.returns-clause-told
returns-clause-told c = λ replies is.
    rw (← c.self.view_is) (c.bytes_by.ensures.bytes ∙ rw c.stage_next.ensures (bytes_are_told (record { table = c.self.inside.table; card = c.self.inside.card; stage = c.self.inside.stage; taken = c.self.inside.taken; is_spent = c.self.inside.is_spent }) replies c.self.invariant (rw (← c.self.view_is) at is)))
