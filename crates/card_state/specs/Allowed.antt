-- Lists of decisions in which each one is allowed by those before it.
use Rattle.std.specs.Prelude.{ℕ, ◌≡◌, ◌<◌, List, length, take, slice_get, Some}
use Rattle.std.specs.Option.{ForSome}
use Rattle.card_state.specs.declared.state.CardState.{CardState}
use Rattle.card_state.specs.Decisions.{Decided}
use Rattle.card_state.specs.Change.{MayDecide}
use Rattle.card_state.specs.Totals.{totals}

-- the decision is of one of the card's applications, whose state allows it
pub record FindsAllowed (state : CardState) (d : Decided) : Type 0 where
  pub in_range : d.app < length state.apps.items
  pub allowed : ForSome (slice_get state.apps.items d.app) (λ s. MayDecide s d.decision)

-- each decision finds the totals of those before it
abbrev pub Allowed : CardState → List Decided → Type 0
Allowed opening ds = (k : ℕ) (d : Decided) → slice_get ds k ≡ Some d → FindsAllowed (totals opening (take k ds)) d
