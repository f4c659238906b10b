-- The terminal that a document holds, or the document's first fault.
use Rattle.std.specs.Prelude.{ℕ, List, [], ◌∷◌, codes, Option, Some, None, Result, Ok, Err}
use Rattle.std.specs.Str.{IsUtf8}
use Rattle.toml.specs.Data.{Members}
use Rattle.toml.specs.Parse.{parse_document}
use Rattle.scenario_fields.specs.Fault.{◌>>=◌, Gives}
use Rattle.scenario_fields.specs.Fields.{bytes_at, table_at, only}
use Rattle.scenario_fields.specs.TablePaths.{at_top}
use Rattle.scenario_fields.specs.declared.fault.ScenarioFault.{ScenarioFault}
use Rattle.scenario_fields.specs.declared.fault.ScenarioFault.TheVariants.{Toml}
use Rattle.scenario_lanes.specs.Lanes.{live_lane}
use Rattle.scenario_lanes.specs.Plan.{LaneData}

unfoldable pub document_keys : List (List ℕ)
document_keys = codes "pin_key" ∷ codes "lane" ∷ []

-- a terminal has at most so many purchases, as many as all lanes of a scenario
abbrev pub most_purchases : ℕ
most_purchases = 10000

-- the document of a trace without its entries, with one or more purchases, whose messages may have a dialect
unfoldable pub lane_in_document : Members → Result LaneData ScenarioFault
lane_in_document ms = do
  pin_key ← bytes_at at_top (codes "pin_key") 16 16 ms
  table ← table_at at_top (codes "lane") ms
  lane ← live_lane most_purchases pin_key table
  _ ← only at_top document_keys ms
  Ok lane

abbrev pub lane_of_document : Option Members → Result LaneData ScenarioFault
lane_of_document None = Err Toml
lane_of_document (Some ms) = lane_in_document ms

-- what the bytes give
pub record ReadsTerminal (bytes : List ℕ) (result : Result LaneData ScenarioFault) : Type 0 where
  pub text : IsUtf8 bytes → Gives (λ l. l) result (lane_of_document (parse_document bytes))
  pub other : (IsUtf8 bytes → ⊥) → Gives (λ l. l) result (Err Toml)
