-- The lanes of a report.
use Rattle.std.specs.Prelude.{◌<◌, ⊤}
use Rattle.report_lines.specs.declared.line.Whose.{Whose}
use Rattle.report_lines.specs.declared.line.Whose.TheVariants.{Lane, Settlement, Audit, Report}

-- a lane's line has one of the 16 lanes
abbrev pub HasLane : Whose → Type 0
HasLane (Lane lane) = lane < 16
HasLane (Settlement lane) = lane < 16
HasLane (Audit card) = ⊤
HasLane Report = ⊤
