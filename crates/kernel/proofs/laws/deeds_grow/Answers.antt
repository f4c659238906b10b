use Rattle.kernel.proofs.Growing.{deeds_grow}
use Rattle.kernel.proofs.laws.deeds_grow.Goals as goal

pub returns : goal.returns
returns c outset replies more = deeds_grow outset replies more
