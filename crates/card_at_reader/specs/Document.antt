-- The cards that a document holds, or the document's first fault.
use Rattle.std.specs.Prelude.{ℕ, Bool, true, if◌then◌else◌, List, [], ◌∷◌, Option, Some, None, Result, Ok, Err}
use Rattle.std.specs.Str.{IsUtf8, bytes_eq}
use Rattle.toml.specs.Data.{Members}
use Rattle.toml.specs.Parse.{parse_document}
use Rattle.scenario.specs.Cards.{cards_at}
use Rattle.scenario_plan.specs.Cards.{CardData}
use Rattle.scenario.specs.Issuer.{issuer_at}
use Rattle.scenario.specs.Scenario.{top_keys}
use Rattle.scenario_plan.specs.SeenCards.{seen_cards}
use Rattle.scenario_plan.specs.declared.plan.CardKind.{CardKind}
use Rattle.scenario_plan.specs.declared.plan.NamedCard.{NamedCard}
use Rattle.scenario_fields.specs.Fault.{◌>>=◌, Gives}
use Rattle.scenario_fields.specs.Fields.{only}
use Rattle.scenario_fields.specs.TablePaths.{at_top}
use Rattle.scenario_fields.specs.declared.fault.ScenarioFault.{ScenarioFault}
use Rattle.scenario_fields.specs.declared.fault.ScenarioFault.TheVariants.{Toml}

-- the issuer's keys and the cards of a scenario; its other tables are not read
unfoldable pub cards_of : Members → Result (List CardData) ScenarioFault
cards_of ms = do
  issuer ← issuer_at at_top ms
  cards ← cards_at issuer ms
  _ ← only at_top top_keys ms
  Ok cards

abbrev pub cards_of_document : Option Members → Result (List CardData) ScenarioFault
cards_of_document None = Err Toml
cards_of_document (Some ms) = cards_of ms

-- what the bytes give
pub record ReadsCards (bytes : List ℕ) (result : Result (List NamedCard) ScenarioFault) : Type 0 where
  pub text : IsUtf8 bytes → Gives seen_cards result (cards_of_document (parse_document bytes))
  pub other : (IsUtf8 bytes → ⊥) → Gives seen_cards result (Err Toml)

-- a card of this name, or any where none is said
abbrev pub is_wanted : Option (List ℕ) → List ℕ → Bool
is_wanted None name = true
is_wanted (Some wanted) name = bytes_eq name wanted

-- what the first card that is wanted answers by
abbrev pub wanted_kind : Option (List ℕ) → List NamedCard → Option CardKind
wanted_kind wanted [] = None
wanted_kind wanted (card ∷ cards) = if is_wanted wanted card.name.items then Some card.kind else wanted_kind wanted cards
