-- What a state of version 1 is in version 2.
use Rattle.std.specs.Prelude.{List, [], ◌∷◌, map}
use Rattle.card_state.specs.Layout.{as_one}
use Rattle.card_state.specs.declared.state.AppState.{AppState}
use Rattle.card_state.specs.declared.state.CardState.{CardState}

-- a card that knows of no second currency and no log
abbrev pub card_as_one : CardState → CardState
card_as_one state = record { blocked = state.blocked; apps = record { items = map as_one state.apps.items } }

-- an application with the limits of another one that version 1 doesn't have
abbrev pub with_limit : AppState → AppState → AppState
with_limit opening s = record s { limit_two = opening.limit_two; log_max = opening.log_max }

-- one application after the other
unfoldable pub limits_applied : List AppState → List AppState → List AppState
limits_applied [] ss = []
limits_applied (o ∷ os) [] = []
limits_applied (o ∷ os) (s ∷ ss) = with_limit o s ∷ limits_applied os ss

-- a card's state with the limits of its opening state
unfoldable pub with_limits : CardState → CardState → CardState
with_limits opening state = record { blocked = state.blocked; apps = record { items = limits_applied opening.apps.items state.apps.items } }
