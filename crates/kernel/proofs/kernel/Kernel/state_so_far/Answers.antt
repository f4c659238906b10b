use Rattle.kernel.proofs.Showing.{state_is_told}
use Rattle.kernel.proofs.kernel.Kernel.state_so_far.Goals as goal

pub returns-clause-told : goal.returns-clause-told
returns-clause-told c = λ replies is.
    rw (← c.self.view_is) (state_is_told (record { table = c.self.inside.table; card = c.self.inside.card; stage = c.self.inside.stage; taken = c.self.inside.taken; is_spent = c.self.inside.is_spent }) replies c.self.invariant (rw (← c.self.view_is) at is))
