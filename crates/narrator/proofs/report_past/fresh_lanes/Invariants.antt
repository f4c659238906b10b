use Rattle.std.proofs.Common.{◌≡◌}
use Rattle.std.specs.Prelude.{replicate}
use Rattle.narrator.specs.State.{untold}
use Rattle.narrator.proofs.report_past.fresh_lanes.Given as goal

abbrev pub invariant-loop-place : goal.invariant-loop-place
invariant-loop-place l = l.lanes.items ≡ replicate l.place untold
