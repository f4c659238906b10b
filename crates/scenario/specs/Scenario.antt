-- The scenario that a document describes, or the document's first fault.
use Rattle.std.specs.Prelude.{ℕ, List, [], ◌∷◌, ◌<◌, ◌≤◌, length, codes, Option, Some, None, Result, Ok, Err}
use Rattle.std.specs.Str.{IsUtf8}
use Rattle.toml.specs.Data.{Members}
use Rattle.toml.specs.Parse.{parse_document}
use Rattle.scenario_fields.specs.Fault.{◌>>=◌, Gives}
use Rattle.scenario_fields.specs.Fields.{number_or, only}
use Rattle.scenario_fields.specs.TablePaths.{at_top}
use Rattle.scenario_fields.specs.declared.fault.ScenarioFault.{ScenarioFault}
use Rattle.scenario_fields.specs.declared.fault.ScenarioFault.TheVariants.{Toml, OutOfLimit}
use Rattle.scenario.specs.Accounts.{accounts_at}
use Rattle.scenario.specs.Cards.{cards_at, card_names}
use Rattle.scenario.specs.Issuer.{issuer_at}
use Rattle.scenario_plan.specs.Plan.{ScenarioData}
use Rattle.scenario.specs.declared.read.TheConstants.{MOST_BYTES}
use Rattle.scenario.specs.Schedule.{schedule_at, known_lanes}
use Rattle.scenario_lanes.specs.Cards.{known_from}
use Rattle.scenario_lanes.specs.Lanes.{lanes_at}

unfoldable pub top_keys : List (List ℕ)
top_keys = codes "issuer" ∷ codes "account" ∷ codes "card" ∷ codes "lane" ∷ codes "schedule" ∷ codes "copies" ∷ []

-- the document's keys in their order, and the keys that it doesn't know
unfoldable pub tables_of : Members → Result ScenarioData ScenarioFault
tables_of ms = do
  issuer ← issuer_at at_top ms
  accounts ← accounts_at at_top ms
  cards ← cards_at issuer ms
  lanes ← lanes_at at_top (card_names cards) issuer.pin ms
  schedule ← schedule_at at_top ms
  copies ← number_or 1 at_top (codes "copies") 1 3 ms
  _ ← only at_top top_keys ms
  Ok (record { issuer = issuer; accounts = accounts; cards = cards; lanes = lanes; schedule = schedule; copies = copies })

-- each card and each lane that is named is there
unfoldable pub names_known : ScenarioData → Result (Unit {0}) ScenarioFault
names_known scenario = do
  _ ← known_from (length scenario.cards) 0 scenario.lanes
  known_lanes (length scenario.lanes) 0 scenario.schedule

-- the tables, and behind all the names
unfoldable pub scenario_of : Members → Result ScenarioData ScenarioFault
scenario_of ms = do
  scenario ← tables_of ms
  _ ← names_known scenario
  Ok scenario

-- a text that is no TOML document has the one fault
abbrev pub scenario_of_document : Option Members → Result ScenarioData ScenarioFault
scenario_of_document None = Err Toml
scenario_of_document (Some ms) = scenario_of ms

-- what the bytes give: too many of them are refused unread
pub record ReadsScenario (bytes : List ℕ) (result : Result ScenarioData ScenarioFault) : Type 0 where
  pub long : MOST_BYTES < length bytes → Gives (λ s. s) result (Err (OutOfLimit (codes "file")))
  pub text : length bytes ≤ MOST_BYTES → IsUtf8 bytes → Gives (λ s. s) result (scenario_of_document (parse_document bytes))
  pub other : length bytes ≤ MOST_BYTES → (IsUtf8 bytes → ⊥) → Gives (λ s. s) result (Err Toml)
