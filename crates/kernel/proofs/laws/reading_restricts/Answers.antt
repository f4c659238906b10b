use Rattle.kernel.proofs.Restricting.{reading_restricts}
use Rattle.kernel.proofs.laws.reading_restricts.Goals as goal

pub returns : goal.returns
returns c outset replies = reading_restricts outset replies
