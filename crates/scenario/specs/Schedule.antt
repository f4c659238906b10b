-- The schedule: whose exchange comes next.
use Rattle.std.specs.Prelude.{ℕ, ◌+◌, ℤ, pos, negsuc, List, [], ◌∷◌, codes, nat_le, nat_lt, Result, Ok, Err, if◌then◌else◌}
use Rattle.toml.specs.Data.{Data, Members, as_integer}
use Rattle.scenario_fields.specs.Fault.{◌>>=◌, or_fault}
use Rattle.scenario_fields.specs.Fields.{array_or_none, each}
use Rattle.scenario_fields.specs.TablePaths.{item_path, at_top}
use Rattle.scenario_fields.specs.declared.fault.ScenarioFault.{ScenarioFault}
use Rattle.scenario_fields.specs.declared.fault.ScenarioFault.TheVariants.{BadValue, UnknownName}

-- the number of a lane; 255 stands for all that no byte holds, since it is no lane either
abbrev pub lane_number : ℤ → ℕ
lane_number (pos n) = (if nat_le n 255 then n else 255)
lane_number (negsuc n) = 255

unfoldable pub schedule_item : (List ℕ → List ℕ) → ℕ → Data → Result ℕ ScenarioFault
schedule_item path i d = do
  number ← or_fault (BadValue (path (item_path (codes "schedule") i []))) (as_integer d)
  Ok (lane_number number)

-- at most 200,000 numbers
unfoldable pub schedule_at : (List ℕ → List ℕ) → Members → Result (List ℕ) ScenarioFault
schedule_at path ms = array_or_none path (codes "schedule") 200000 ms >>= each (schedule_item path) 0

-- each number of the schedule, from index `i` on, is one of the lanes: tried behind the whole document
abbrev pub known_lanes : ℕ → ℕ → List ℕ → Result (Unit {0}) ScenarioFault
known_lanes lanes i [] = Ok tt
known_lanes lanes i (n ∷ ns) =
    if nat_lt n lanes then known_lanes lanes (i + 1) ns
    else Err (UnknownName (at_top (item_path (codes "schedule") i [])))
