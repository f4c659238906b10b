use Rattle.std.proofs.Common.{◌≡◌, map}
use Rattle.std.specs.List.{range_with_len}
use Rattle.scenario_plan.specs.SeenCards.{seen_cards}
use Rattle.generated.specs.Card.{generated_card}
use Rattle.generated.proofs.card.cards.Given as goal

abbrev pub invariant-loop-number : goal.invariant-loop-number
invariant-loop-number l = seen_cards l.cards.items ≡ map generated_card (range_with_len 0 l.number)
