use Rattle.std.proofs.Common.{◌≡◌, ℕ, ◌+◌, ◌<◌, List, [], ◌∷◌, ◌++◌, length, get_or, drop, Result, Ok, ap, sym, subst, ◌∙◌, rules, arith}
use Rattle.std.proofs.lemmas.List.{map-append}
use Rattle.scenario_plan.specs.SeenCards.{seen_card, seen_cards}
use Rattle.scenario.proofs.CardParts.{cards_keep, card_names_differ}
use Rattle.scenario.specs.CardRules.{IsNewCard}
use Rattle.scenario_plan.specs.Cards.{CardData}
use Rattle.scenario_plan.specs.declared.plan.NamedCard.{NamedCard}
use Rattle.issuer_host.specs.declared.keys.HostKeys.{HostKeys}
use Rattle.toml.proofs.Views.{items_view-drop}
use Rattle.toml.specs.Data.{Data, Items, item}
use Rattle.toml.specs.View.{view, items_view}
use Rattle.toml.specs.declared.value.Value.{Value}
use Rattle.scenario_fields.specs.Fields.{with_front}
use Rattle.scenario_fields.specs.declared.fault.ScenarioFault.{ScenarioFault}
use Rattle.scenario.proofs.Loops.{front_moved}
use Rattle.scenario.proofs.CardParts.{cards_keep, card_names_differ}
use Rattle.scenario.specs.CardRules.{IsNewCard}
use Rattle.scenario.specs.Cards.{card_item, cards_from}
use Rattle.scenario.proofs.card.read_cards.Goals as goal

cards_step : (keys : HostKeys) (front earlier : List CardData) (i : ℕ) (d : Data) (ds : Items) (x : CardData) → card_item i keys earlier d ≡ Ok x →
    with_front (front ++ x ∷ []) (cards_from (i + 1) keys (earlier ++ x ∷ []) ds) ≡ with_front front (cards_from i keys earlier (item d ds))
cards_step keys front earlier i d ds x is = rw is (front_moved front x (cards_from (i + 1) keys (earlier ++ x ∷ []) ds))

cards_pushed : (keys : HostKeys) (i j : ℕ) (vs : List Value) (v : Value) (old new : List NamedCard) (x : NamedCard) (whole : Result (List CardData) ScenarioFault) →
    i < length vs → v ≡ get_or vs i v → j ≡ i → new ≡ old ++ x ∷ [] → card_item j keys (seen_cards old) (view v) ≡ Ok (seen_card x) →
    with_front (seen_cards old) (cards_from i keys (seen_cards old) (items_view (drop i vs))) ≡ whole →
    with_front (seen_cards new) (cards_from (i + 1) keys (seen_cards new) (items_view (drop (i + 1) vs))) ≡ whole
cards_pushed keys i j vs v old new x whole inside item_is at pushed is before =
    rw (pushed, map-append)
    (cards_step keys (seen_cards old) (seen_cards old) i (view (get_or vs i v)) (items_view (drop (i + 1) vs)) (seen_card x)
    (subst (λ (k : ℕ). card_item k keys (seen_cards old) (view (get_or vs i v)) ≡ Ok (seen_card x)) at
    (subst (λ (w : Value). card_item j keys (seen_cards old) (view w) ≡ Ok (seen_card x)) item_is is))
    ∙ (ap (λ (ds : Items). with_front (seen_cards old) (cards_from i keys (seen_cards old) ds)) (sym (items_view-drop vs i v inside)) ∙ before))

pub loop-value-preserved : goal.loop-value-preserved
loop-value-preserved c = record {
  cards = cards_keep c.loop-value.cards.items c.push.new.self.items c.in_ok-card.card c.in_ok-push.ensures.items c.loop-value.invariant.cards (subst (λ (cards : List NamedCard). IsNewCard (seen_cards cards) (seen_card c.in_ok-card.card)) c.as_slice.ensures.value c.in_ok-card.ensures.new);
  names = card_names_differ c.loop-value.cards.items c.push.new.self.items c.in_ok-card.card c.in_ok-push.ensures.items c.loop-value.invariant.names (subst (λ (cards : List NamedCard). IsNewCard (seen_cards cards) (seen_card c.in_ok-card.card)) c.as_slice.ensures.value c.in_ok-card.ensures.new);
  count = search rules;
  read =
      cards_pushed c.args.keys.now c.loop-value.value-index c.len.result c.args.values.now
      c.value-item.result c.loop-value.cards.items c.push.new.self.items c.in_ok-card.card _
      c.loop-value-test.true c.value-item.is (omega (arith, c.len.ensures)) c.in_ok-push.ensures.items
      (subst (λ (cards : List NamedCard). card_item c.len.result c.args.keys.now (seen_cards cards) (view c.value-item.result) ≡ Ok (seen_card c.in_ok-card.card)) c.as_slice.ensures.value c.in_ok-card.ensures.exact)
      c.loop-value.invariant.read;
}
