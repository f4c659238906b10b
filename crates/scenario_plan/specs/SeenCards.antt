-- A scenario's cards as a contract sees them.
use Rattle.std.specs.Prelude.{ℕ, List, map, Option, Some, None}
use Rattle.card_files.specs.Views.{ImageData}
use Rattle.scenario_plan.specs.Cards.{CardData, no_image}
use Rattle.scenario_plan.specs.declared.plan.CardKind.{CardKind}
use Rattle.scenario_plan.specs.declared.plan.CardKind.TheVariants.{App, Canned}
use Rattle.scenario_plan.specs.declared.plan.NamedCard.{NamedCard}

abbrev pub image_of : CardKind → ImageData
image_of (App image) = image
image_of (Canned answers) = no_image

-- the canned answers of a card, where it has them
abbrev pub canned_of : CardKind → Option (List (List ℕ))
canned_of (App image) = None
canned_of (Canned answers) = Some (map (λ answer. answer.items) answers.items)

-- its image, where it has one
abbrev pub image_there : CardKind → Option ImageData
image_there (App image) = Some image
image_there (Canned answers) = None

unfoldable pub seen_card : NamedCard → CardData
seen_card c = record { name = c.name.items; image = image_of c.kind; canned = canned_of c.kind }

-- a scenario's cards as contracts see them
abbrev pub seen_cards : List NamedCard → List CardData
seen_cards cs = map seen_card cs
