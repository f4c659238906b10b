use Rattle.std.proofs.Common.{rules}
use Rattle.scenario.proofs.CardParts.{in_sight}
use Rattle.scenario.proofs.card.directory_at.Goals as goal

pub returns-clause-sight : goal.returns-clause-sight
returns-clause-sight c = in_sight c.args.apps.now c.in_ok-sfi.sfi (search rules)
