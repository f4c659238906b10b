use Rattle.trace_check.proofs.Lawful.{differs_is_least}
use Rattle.trace_check.proofs.laws.differs_is_least.Goals as goal

pub returns : goal.returns
returns c = differs_is_least
