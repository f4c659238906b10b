-- The trace that a document holds, or the document's first fault.
use Rattle.std.specs.Prelude.{◌≡◌, ℕ, ◌≤◌, ◌<◌, nat_le, if◌then◌else◌, List, [], ◌∷◌, length, codes, Option, Some, None, Result, Ok, Err}
use Rattle.std.specs.Str.{IsUtf8}
use Rattle.toml.specs.Data.{Data, Members}
use Rattle.toml.specs.Parse.{parse_document}
use Rattle.scenario_fields.specs.Fault.{◌>>=◌, or_fault, Gives}
use Rattle.scenario_fields.specs.Fields.{bytes_at, table_at, array_at, each, only}
use Rattle.scenario_fields.specs.TablePaths.{at_top, item_path}
use Rattle.scenario_fields.specs.Value.{str_of}
use Rattle.scenario_fields.specs.declared.fault.ScenarioFault.{ScenarioFault}
use Rattle.scenario_fields.specs.declared.fault.ScenarioFault.TheVariants.{Toml, BadValue, OutOfLimit}
use Rattle.scenario_lanes.specs.Lanes.{traced_lane}
use Rattle.scenario_lanes.specs.Plan.{LaneData, IsLane}
use Rattle.trace_check.specs.Texts.{entry_of_text}
use Rattle.trace_check.specs.declared.entry.Entry.{Entry}
use Rattle.trace_check.specs.declared.read.TheConstants.{MOST_BYTES}

-- the terminal with the one purchase, and what was said
pub record TraceData : Type 0 where
  pub lane : LaneData
  pub entries : List Entry

-- a text of at most 8,192 bytes that is an entry
unfoldable pub entry_in_text : List ℕ → List ℕ → Result Entry ScenarioFault
entry_in_text path text = (if nat_le (length text) 8192 then or_fault (BadValue path) (entry_of_text text) else Err (OutOfLimit path))

unfoldable pub entry_item : (List ℕ → List ℕ) → ℕ → Data → Result Entry ScenarioFault
entry_item path i d = str_of (path (item_path (codes "trace") i [])) d >>= entry_in_text (path (item_path (codes "trace") i []))

unfoldable pub entries_at : (List ℕ → List ℕ) → Members → Result (List Entry) ScenarioFault
entries_at path ms = array_at path (codes "trace") 0 50000 ms >>= each (entry_item path) 0

unfoldable pub trace_keys : List (List ℕ)
trace_keys = codes "pin_key" ∷ codes "lane" ∷ codes "trace" ∷ []

unfoldable pub trace_of : Members → Result TraceData ScenarioFault
trace_of ms = do
  pin_key ← bytes_at at_top (codes "pin_key") 16 16 ms
  table ← table_at at_top (codes "lane") ms
  lane ← traced_lane pin_key table
  entries ← entries_at at_top ms
  _ ← only at_top trace_keys ms
  Ok (record { lane = lane; entries = entries })

-- a text that is no TOML document has the one fault
abbrev pub trace_of_document : Option Members → Result TraceData ScenarioFault
trace_of_document None = Err Toml
trace_of_document (Some ms) = trace_of ms

-- what the bytes give: too many of them are refused unread
pub record ReadsTrace (bytes : List ℕ) (result : Result TraceData ScenarioFault) : Type 0 where
  pub long : MOST_BYTES < length bytes → Gives (λ t. t) result (Err (OutOfLimit (codes "file")))
  pub text : length bytes ≤ MOST_BYTES → IsUtf8 bytes → Gives (λ t. t) result (trace_of_document (parse_document bytes))
  pub other : length bytes ≤ MOST_BYTES → (IsUtf8 bytes → ⊥) → Gives (λ t. t) result (Err Toml)

-- a trace within the limits
pub record IsTrace (trace : TraceData) : Type 0 where
  pub lane : IsLane trace.lane
  pub one : length trace.lane.purchases ≡ 1
  pub few : length trace.entries ≤ 50000
