-- The tables of a lane and of its applications.
use Rattle.std.specs.Prelude.{ℕ, ◌+◌, ◌-◌, Bool, ◌&&◌, nat_lt, List, [], ◌∷◌, length, codes, true, false, Result, Ok, Err, if◌then◌else◌}
use Rattle.std.specs.Str.{bytes_eq}
use Rattle.emv_dict.specs.Pan.{least_pan, most_pan}
use Rattle.emv_dict.specs.Settings.{most_amount}
use Rattle.emv_dict.specs.Views.{SettingsData}
use Rattle.emv_dict.specs.declared.purchase.AidRow.{AidRow}
use Rattle.toml.specs.Data.{Data, Items, no_items, item, Members, get_member}
use Rattle.scenario_fields.specs.Fault.{◌>>=◌}
use Rattle.scenario_fields.specs.Fields.{number_at, flag_or, text_at, code_at, bytes_at, array_at, digits_list, table_item, or_default, each, only}
use Rattle.scenario_fields.specs.TablePaths.{in_lane, in_aid}
use Rattle.scenario_fields.specs.Value.{str_of, flag_of}
use Rattle.scenario_fields.specs.declared.place.LaneAt.{LaneAt}
use Rattle.scenario_fields.specs.declared.place.LaneAt.TheVariants.{Numbered, Only}
use Rattle.scenario_fields.specs.declared.fault.ScenarioFault.{ScenarioFault}
use Rattle.scenario_fields.specs.declared.fault.ScenarioFault.TheVariants.{BadValue, OutOfLimit}
use Rattle.scenario_fields.specs.declared.spot.Characters.TheVariants.{LetterOrDigit}
use Rattle.scenario_lanes.specs.Plan.{LaneData, last_pages}
use Rattle.scenario_lanes.specs.Purchases.{purchases_at, tears_tried}
use Rattle.scenario_lanes.specs.declared.lane.LaneLimits.{LaneLimits}

unfoldable pub aid_keys : List (List ℕ)
aid_keys =
    codes "name" ∷ codes "partial" ∷ codes "version" ∷ codes "denial" ∷ codes "online" ∷ codes "default" ∷ codes "floor" ∷ codes "threshold"
    ∷ codes "target" ∷ codes "max_target" ∷ []

unfoldable pub aid_of : (List ℕ → List ℕ) → Members → Result AidRow ScenarioFault
aid_of path ms = do
  name ← bytes_at path (codes "name") 5 16 ms
  partial ← flag_or false path (codes "partial") ms
  version ← bytes_at path (codes "version") 2 2 ms
  denial ← bytes_at path (codes "denial") 5 5 ms
  online ← bytes_at path (codes "online") 5 5 ms
  fallback ← bytes_at path (codes "default") 5 5 ms
  floor ← number_at path (codes "floor") 0 most_amount ms
  threshold ← number_at path (codes "threshold") 0 floor ms
  target ← number_at path (codes "target") 0 99 ms
  max_target ← number_at path (codes "max_target") target 99 ms
  _ ← only path aid_keys ms
  Ok (record {
    name = name;
    partial = partial;
    version = version;
    denial = denial;
    online = online;
    fallback = fallback;
    floor = floor;
    threshold = threshold;
    target = target;
    max_target = max_target;
  })

-- application `j` of a lane, whose keys have these paths
unfoldable pub aid_item : (List ℕ → List ℕ) → LaneAt → ℕ → Data → Result AidRow ScenarioFault
aid_item path at j d = table_item path (codes "aid") j d >>= aid_of (in_aid at j)

unfoldable pub aids_at : (List ℕ → List ℕ) → LaneAt → Members → Result (List AidRow) ScenarioFault
aids_at path at ms = array_at path (codes "aid") 1 16 ms >>= each (aid_item path at) 0

unfoldable pub lane_keys : List (List ℕ)
lane_keys =
    codes "kind" ∷ codes "country" ∷ codes "caps" ∷ codes "id" ∷ codes "exceptions" ∷ codes "aid" ∷ codes "purchase"
    ∷ codes "pse" ∷ codes "dialect" ∷ codes "durable" ∷ []

-- the settings of a lane's terminal but for the directory, which is read behind the purchases
unfoldable pub settings_of : (List ℕ → List ℕ) → LaneAt → List ℕ → Members → Result SettingsData ScenarioFault
settings_of path at pin_key ms = do
  kind ← number_at path (codes "kind") 21 26 ms
  country ← code_at path (codes "country") ms
  caps ← bytes_at path (codes "caps") 3 3 ms
  id ← text_at path (codes "id") LetterOrDigit 8 8 ms
  exceptions ← digits_list path (codes "exceptions") 100 least_pan most_pan ms
  aids ← aids_at path at ms
  Ok (record { kind = kind; country = country; caps = caps; id = id; pin_key = pin_key; exceptions = exceptions; aids = aids; pse = false })

-- whether messages go in the second dialect, by its word
unfoldable pub dialect_named : List ℕ → List ℕ → Result Bool ScenarioFault
dialect_named path word =
    if bytes_eq word (codes "tlv") then Ok false
    else if bytes_eq word (codes "iso") then Ok true
    else Err (BadValue path)

-- the dialect that a word names, where the lane may have one; the lane of a trace may not
abbrev pub dialect_in : Bool → List ℕ → Data → Result Bool ScenarioFault
dialect_in true path d = str_of path d >>= dialect_named path
dialect_in false path d = Err (BadValue path)

unfoldable pub dialect_or_tlv : Bool → (List ℕ → List ℕ) → Members → Result Bool ScenarioFault
dialect_or_tlv allowed path ms = or_default false (dialect_in allowed (path (codes "dialect"))) (get_member (codes "dialect") ms)

-- the store of lane `i` is on no card's pages
unfoldable pub durable_on : ℕ → ℕ → List ℕ → Bool → Result Bool ScenarioFault
durable_on cards i path durable = if durable && nat_lt (last_pages - i) cards then Err (OutOfLimit path) else Ok durable

-- a trace's terminal has no store
abbrev pub durable_in : ℕ → LaneAt → List ℕ → Data → Result Bool ScenarioFault
durable_in cards (Numbered i) path d = flag_of path d >>= durable_on cards i path
durable_in cards Only path d = Err (BadValue path)

-- whether a lane keeps its captures durably, where the scenario has so many cards
unfoldable pub durable_or_not : ℕ → LaneAt → (List ℕ → List ℕ) → Members → Result Bool ScenarioFault
durable_or_not cards at path ms = or_default false (durable_in cards at (path (codes "durable"))) (get_member (codes "durable") ms)

-- a lane with so many purchases, and a dialect or none
unfoldable pub lane_of : (List ℕ → List ℕ) → LaneAt → LaneLimits → List (List ℕ) → List ℕ → Members → Result LaneData ScenarioFault
lane_of path at limits names pin_key ms = do
  settings ← settings_of path at pin_key ms
  purchases ← purchases_at path at limits.least limits.most names ms
  pse ← flag_or false path (codes "pse") ms
  iso ← dialect_or_tlv limits.dialect path ms
  durable ← durable_or_not (length names) at path ms
  _ ← tears_tried at durable purchases
  _ ← only path lane_keys ms
  Ok (record { settings = record settings { pse = pse }; purchases = purchases; iso = iso; durable = durable })

-- lane `i`, where the lanes before it have `earlier` purchases: at most 10,000 in all lanes
unfoldable pub lane_item : (List ℕ → List ℕ) → ℕ → ℕ → List (List ℕ) → List ℕ → Data → Result LaneData ScenarioFault
lane_item path i earlier names pin_key d =
    table_item path (codes "lane") i d >>= lane_of (in_lane (Numbered i)) (Numbered i) (record { least = 0; most = 10000 - earlier; dialect = true }) names pin_key

-- the lane of a trace: with one purchase, whose card has a name and no index
abbrev pub traced_lane : List ℕ → Members → Result LaneData ScenarioFault
traced_lane pin_key ms = lane_of (in_lane Only) Only (record { least = 1; most = 1; dialect = false }) [] pin_key ms

-- the lane of a terminal that talks with others: with one or more purchases, and its dialect
abbrev pub live_lane : ℕ → List ℕ → Members → Result LaneData ScenarioFault
live_lane most pin_key ms = lane_of (in_lane Only) Only (record { least = 1; most = most; dialect = true }) [] pin_key ms

-- the lanes from number `i` on
abbrev pub lanes_from : (List ℕ → List ℕ) → ℕ → ℕ → List (List ℕ) → List ℕ → Items → Result (List LaneData) ScenarioFault
lanes_from path i earlier names pin_key no_items = Ok []
lanes_from path i earlier names pin_key (item d ds) = do
  lane ← lane_item path i earlier names pin_key d
  lanes ← lanes_from path (i + 1) (earlier + length lane.purchases) names pin_key ds
  Ok (lane ∷ lanes)

-- all lanes at their key in the document
unfoldable pub lanes_at : (List ℕ → List ℕ) → List (List ℕ) → List ℕ → Members → Result (List LaneData) ScenarioFault
lanes_at path names pin_key ms = do
  items ← array_at path (codes "lane") 1 16 ms
  lanes_from path 0 0 names pin_key items
