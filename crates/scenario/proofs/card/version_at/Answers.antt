use Rattle.scenario.proofs.Listed.{known_version}
use Rattle.scenario.proofs.card.version_at.Goals as goal

pub returns-clause-known : goal.returns-clause-known
returns-clause-known c = known_version c.in_ok-number.number c.in_ok-number.ensures.among
