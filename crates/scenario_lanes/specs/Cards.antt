-- Whether the cards that purchases name are there: tried behind the whole document.
use Rattle.std.specs.Prelude.{ℕ, ◌+◌, List, [], ◌∷◌, codes, nat_lt, Result, Ok, Err, if◌then◌else◌}
use Rattle.scenario_fields.specs.Fault.{◌>>=◌}
use Rattle.scenario_fields.specs.TablePaths.{in_purchase}
use Rattle.scenario_fields.specs.declared.place.LaneAt.TheVariants.{Numbered}
use Rattle.scenario_fields.specs.declared.fault.ScenarioFault.{ScenarioFault}
use Rattle.scenario_fields.specs.declared.fault.ScenarioFault.TheVariants.{UnknownName}
use Rattle.scenario_lanes.specs.Plan.{LaneData}
use Rattle.scenario_lanes.specs.declared.plan.Planned.{Planned}

-- each purchase of lane `i`, from number `j` on, has one of the cards
abbrev pub known_in_lane : ℕ → ℕ → ℕ → List Planned → Result (Unit {0}) ScenarioFault
known_in_lane cards i j [] = Ok tt
known_in_lane cards i j (p ∷ ps) =
    if nat_lt p.card cards then known_in_lane cards i (j + 1) ps
    else Err (UnknownName (in_purchase (Numbered i) j (codes "card")))

-- so for the lanes from number `i` on
abbrev pub known_from : ℕ → ℕ → List LaneData → Result (Unit {0}) ScenarioFault
known_from cards i [] = Ok tt
known_from cards i (l ∷ ls) = known_in_lane cards i 0 l.purchases >>= (λ u. known_from cards (i + 1) ls)
