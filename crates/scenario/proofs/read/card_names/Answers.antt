use Rattle.std.proofs.Common.{refl}
use Rattle.std.proofs.lemmas.List.{take_all}
use Rattle.scenario.proofs.CardNames.{card_names_seen}
use Rattle.scenario.proofs.read.card_names.Goals as goal

pub returns : goal.returns
returns c = rw (card_names_seen, c.loop-card.invariant, take_all c.loop-card.card-index c.args.cards.now c.loop-card-test.false) refl
