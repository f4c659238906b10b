use Rattle.std.proofs.Common.{◌∙◌}
use Rattle.scenario.proofs.CardNames.{is_named_seen}
use Rattle.scenario.proofs.card.is_named.Goals as goal

pub returns : goal.returns
returns c = c.any_named.ensures ∙ is_named_seen c.args.name.now c.args.cards.now
