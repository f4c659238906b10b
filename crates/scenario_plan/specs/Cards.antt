-- The cards of a scenario as a contract sees them, and their rules, on which those who run them rest.
use Rattle.std.specs.Prelude.{◌≡◌, ◌≢◌, ◌≤◌, ℕ, List, [], length, Option, Some, None}
use Rattle.std.specs.List.{All, AllPairs}
use Rattle.card_files.specs.ImageRules.{IsImage}
use Rattle.card_files.specs.Views.{ImageData}

-- a card of canned answers has no applications, and so no state and no directory
abbrev pub no_image : ImageData
no_image = record { apps = []; version = 2; directory = None }

-- a card by its name: its image; or none, and the answers that it gives to its commands, whatever they are
pub record CardData : Type 0 where
  pub name : List ℕ
  pub image : ImageData
  pub canned : Option (List (List ℕ))

-- at most 300 answers, each of at most 258 bytes
pub record AreAnswers (answers : List (List ℕ)) : Type 0 where
  pub few : length answers ≤ 300
  pub short : All (λ answer. length answer ≤ 258) answers

-- an image, or none beside canned answers
abbrev pub IsKind : ImageData → Option (List (List ℕ)) → Type 0
IsKind image None = IsImage image
IsKind image (Some answers) = (image ≡ no_image) × AreAnswers answers

-- a card of a scenario by itself: its name has 1 to 16 characters, and it has an image or canned answers
pub record IsCard (card : CardData) : Type 0 where
  pub some_name : 1 ≤ length card.name
  pub short_name : length card.name ≤ 16
  pub kind : IsKind card.image card.canned

-- the cards of a scenario: 1 to 64, each in its rules and with a name of its own
pub record AreCards (cards : List CardData) : Type 0 where
  pub some : 1 ≤ length cards
  pub few : length cards ≤ 64
  pub each : All IsCard cards
  pub names : AllPairs (λ a b. a.name ≢ b.name) cards
