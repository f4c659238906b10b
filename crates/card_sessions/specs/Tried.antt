-- The decision that a PIN was right, among those that a command adds (EMV 4.3 Book 3 section 6.5.12).
use Rattle.std.specs.Prelude.{◌≡◌, ℕ, List, [], ◌∷◌, Contains}
use Rattle.card_files.specs.Views.{ImageData}
use Rattle.card_state.specs.Decisions.{Decided}
use Rattle.card_state.specs.declared.decision.Decision.TheVariants.{PinTry, PinRight}
use Rattle.card_app.specs.Answering.{card_answer}
use Rattle.card_app.specs.Session.{Exchange}

-- it stands behind a PIN try of its application, and nothing else is decided
abbrev pub TriesBefore : List Decided → Type 0
TriesBefore new =
    (app limit : ℕ) → Contains new (record { app = app; decision = PinRight limit })
    → new ≡ record { app = app; decision = PinTry } ∷ record { app = app; decision = PinRight limit } ∷ []

-- so a card of this image never compares before it counts the try
abbrev pub TriesFirst : ImageData → Type 0
TriesFirst image =
    (ds : List Decided) (session : List Exchange) (command : List ℕ) → TriesBefore (card_answer image ds session command).new
