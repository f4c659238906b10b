use Rattle.kernel.proofs.Growing.{steps_stay}
use Rattle.kernel.proofs.laws.steps_stay.Goals as goal

pub returns : goal.returns
returns c outset replies more = steps_stay outset replies more
