use Rattle.std.proofs.Common.{◌≡◌, ◌≢◌, [], drop, length}
use Rattle.std.specs.List.{All, AllPairs}
use Rattle.scenario_plan.specs.Cards.{IsCard}
use Rattle.toml.specs.View.{items_view}
use Rattle.scenario_fields.specs.Fields.{with_front}
use Rattle.scenario.specs.Cards.{cards_from}
use Rattle.scenario_plan.specs.SeenCards.{seen_cards}
use Rattle.scenario.proofs.card.read_cards.Given as goal

abbrev pub invariant-loop-value : goal.invariant-loop-value
invariant-loop-value l = record {
  cards : All IsCard (seen_cards l.cards.items);
  names : AllPairs (λ a b. a.name ≢ b.name) (seen_cards l.cards.items);
  count : length l.cards.items ≡ l.value-index;
  read :
      with_front (seen_cards l.cards.items) (cards_from l.value-index l.keys (seen_cards l.cards.items) (items_view (drop l.value-index l.values)))
      ≡ cards_from 0 l.keys [] (items_view l.values);
}
