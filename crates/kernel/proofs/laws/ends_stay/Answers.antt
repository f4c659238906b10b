use Rattle.kernel.proofs.Growing.{ends_stay}
use Rattle.kernel.proofs.laws.ends_stay.Goals as goal

pub returns : goal.returns
returns c outset replies more ending is = ends_stay outset replies more ending is
