-- The names of cards.
use Rattle.std.proofs.Common.{◌≡◌, ℕ, suc, List, [], ◌∷◌, length, map, Bool, ◌||◌, refl, ap, ◌∙◌}
use Rattle.std.proofs.lemmas.List.{length-map}
use Rattle.std.specs.List.{list_any}
use Rattle.std.specs.Str.{bytes_eq}
use Rattle.scenario.specs.Cards.{is_name_used, card_names}
use Rattle.scenario_plan.specs.SeenCards.{seen_card, seen_cards}
use Rattle.scenario_plan.specs.declared.plan.NamedCard.{NamedCard}

pub is_named_seen : (name : List ℕ) (cards : List NamedCard) → list_any (λ c. bytes_eq c.name.items name) cards ≡ is_name_used name (seen_cards cards)
unfolding is_name_used seen_card
is_named_seen name [] = refl
is_named_seen name (c ∷ cards) = ap (λ (b : Bool). bytes_eq c.name.items name || b) (is_named_seen name cards)

pub card_names_seen : (cards : List NamedCard) → card_names (seen_cards cards) ≡ map (λ c. c.name.items) cards
unfolding card_names seen_card
card_names_seen [] = refl
card_names_seen (c ∷ cards) = ap (λ (names : List (List ℕ)). c.name.items ∷ names) (card_names_seen cards)

pub cards_count : (cards : List NamedCard) → length (seen_cards cards) ≡ length cards
cards_count [] = refl
cards_count (c ∷ cards) = ap suc (cards_count cards)

pub names_count : (cards : List NamedCard) → length (card_names (seen_cards cards)) ≡ length cards
names_count cards = ap length (card_names_seen cards) ∙ length-map cards (λ c. c.name.items)
