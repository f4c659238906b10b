use Rattle.std.proofs.Common.{ap, ◌∙◌}
use Rattle.std.proofs.lemmas.List.{map_push}
use Rattle.scenario_plan.specs.SeenCards.{seen_card, seen_cards}
use Rattle.generated.proofs.Numbered.{numbered_push}
use Rattle.generated.specs.Card.{generated_card}
use Rattle.generated.proofs.card.cards.Goals as goal

pub loop-number-preserved : goal.loop-number-preserved
loop-number-preserved c =
    numbered_push generated_card (seen_cards c.loop-number.cards.items) (seen_cards c.push.new.self.items) c.loop-number.number (seen_card c.in_ok-card.field-0)
    (ap seen_cards c.in_ok-push.ensures.items ∙ map_push seen_card c.loop-number.cards.items c.in_ok-card.field-0) c.in_ok-card.ensures c.loop-number.invariant
