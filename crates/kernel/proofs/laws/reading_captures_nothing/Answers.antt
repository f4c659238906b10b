use Rattle.kernel.proofs.Uncaptured.{reading_captures_nothing}
use Rattle.kernel.proofs.laws.reading_captures_nothing.Goals as goal

pub returns : goal.returns
returns c = reading_captures_nothing
