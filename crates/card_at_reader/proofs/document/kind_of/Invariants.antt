use Rattle.std.proofs.Common.{◌≡◌, drop, option_map}
use Rattle.card_at_reader.specs.Document.{wanted_kind}
use Rattle.card_at_reader.proofs.document.kind_of.Given as goal

abbrev pub invariant-loop-card : goal.invariant-loop-card
invariant-loop-card l =
    wanted_kind (option_map (λ name. name.now) l.name) (drop l.card-index l.cards) ≡ wanted_kind (option_map (λ name. name.now) l.name) l.cards
