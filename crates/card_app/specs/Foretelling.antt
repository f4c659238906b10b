-- What a command would make a card decide.
use Rattle.std.specs.Prelude.{List, [], ◌∷◌}
use Rattle.card_state.specs.Decisions.{Decided}
use Rattle.card_state.specs.declared.decision.Decision.TheVariants.{PinTry, PinRight}
use Rattle.card_app.specs.declared.foretelling.Foretold.{Foretold}
use Rattle.card_app.specs.declared.foretelling.Foretold.TheVariants.{Nothing, Decides, RightPin}

-- the decisions, in their order
abbrev pub decisions_foretold : Foretold → List Decided
decisions_foretold Nothing = []
decisions_foretold (Decides app decision) = record { app = app; decision = decision } ∷ []
decisions_foretold (RightPin app limit) = record { app = app; decision = PinTry } ∷ record { app = app; decision = PinRight limit } ∷ []
