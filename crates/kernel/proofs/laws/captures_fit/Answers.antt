use Rattle.kernel.proofs.Telling.{captures_fit}
use Rattle.kernel.proofs.laws.captures_fit.Goals as goal

pub returns : goal.returns
returns c outset replies end ends = captures_fit outset replies end ends
