use Rattle.kernel.proofs.Telling.{host_told}
use Rattle.kernel.proofs.laws.host_is_told.Goals as goal

pub returns : goal.returns
returns c outset replies = host_told outset replies
