use Rattle.std.proofs.Common.{◌≡◌, map, take}
use Rattle.scenario.proofs.read.card_names.Given as goal

abbrev pub invariant-loop-card : goal.invariant-loop-card
invariant-loop-card l = map (λ name. name.now) l.names.items ≡ map (λ card. card.name.items) (take l.card-index l.cards)
