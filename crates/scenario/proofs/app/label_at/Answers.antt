use Rattle.scenario.proofs.CardParts.{label_passes}
use Rattle.scenario.proofs.app.label_at.Goals as goal

pub returns-clause-rule : goal.returns-clause-rule
returns-clause-rule c = rw c.in_ok-from_slice.ensures.items (label_passes c.in_ok-text.text.now c.in_ok-text.ensures.within c.in_ok-text.ensures.all)
