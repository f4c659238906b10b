use Rattle.std.proofs.Common.{◌≡◌, List, length, sym, ap, ◌∙◌, arith}
use Rattle.std.proofs.lemmas.List.{length-map}
use Rattle.scenario_plan.specs.Cards.{CardData}
use Rattle.scenario_plan.specs.Plan.{ScenarioData}
use Rattle.scenario_plan.specs.SeenCards.{seen_card, seen_cards}
use Rattle.txn_replay.proofs.world.parts_of.Goals as goal

pub returns-clause-cards : goal.returns-clause-cards
returns-clause-cards g c =
    let cards : seen_cards c.scenario.inside.cards.items ≡ c.args.scenario.now.cards = ap (λ (s : ScenarioData). s.cards) c.scenario.view_is in
    let count : length c.args.scenario.now.cards ≡ length c.scenario.inside.cards.items =
    ap (λ (cs : List CardData). length cs) (sym cards) ∙ length-map c.scenario.inside.cards.items seen_card in (
    record {
      none = c.in-Ok-with_capacity-2.ensures.items;
      room = omega (arith, count, c.len-3.ensures, c.scenario.inside.cards.ok.0, c.in-Ok-with_capacity-2.ensures.capacity);
    }
    )
