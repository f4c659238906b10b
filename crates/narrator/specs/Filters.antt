-- Which lines a filter leaves.
use Rattle.std.specs.Prelude.{ℕ, ◌+◌, ◌==◌, Bool, true, false, not, ◌&&◌, ◌||◌, Option, Some, None, is_none}
use Rattle.report_lines.specs.Reading.{LineData, WhatData, WhoseData, Lane, Settlement, Audit, Report, Power, PowerTorn, PowerCanned, End, Lost, Balance, Done}
use Rattle.narrator.specs.declared.filter.Filter.{Filter}

-- a lane's lines, in its payments and in its settlement
abbrev pub is_of_lane : Option ℕ → WhoseData → Bool
is_of_lane None w = true
is_of_lane (Some wanted) (Lane lane) = lane == wanted
is_of_lane (Some wanted) (Settlement lane) = lane == wanted
is_of_lane (Some wanted) (Audit card) = false
is_of_lane (Some wanted) Report = false

-- a lane's lines behind the end line before this number, up to the end line of this number
abbrev pub is_of_purchase : Option ℕ → WhoseData → ℕ → Bool
is_of_purchase None w last_end = true
is_of_purchase (Some wanted) (Lane lane) last_end = wanted == last_end + 1
is_of_purchase (Some wanted) (Settlement lane) last_end = false
is_of_purchase (Some wanted) (Audit card) last_end = false
is_of_purchase (Some wanted) Report last_end = false

-- a power-up, an end, a balance, or how many purchases ended
abbrev pub is_left_by_ends : WhatData → Bool
is_left_by_ends (Power card apps) = true
is_left_by_ends (PowerTorn card) = true
is_left_by_ends (PowerCanned card) = true
is_left_by_ends (End number ending fields) = true
is_left_by_ends (Lost number) = true
is_left_by_ends Balance = true
is_left_by_ends Done = true
is_left_by_ends _ = false

-- whether a filter leaves every line
abbrev pub shows_all : Filter → Bool
shows_all f = not f.ends && (is_none f.lane && is_none f.purchase)

-- filters go together
abbrev pub is_left_by_filters : Filter → LineData → ℕ → Bool
is_left_by_filters f line last_end = is_of_lane f.lane line.whose && (is_of_purchase f.purchase line.whose last_end && (not f.ends || is_left_by_ends line.what))
