use Rattle.std.proofs.Common.{◌≡◌, drop}
use Rattle.scenario_lanes.specs.Purchases.{no_terminal_tears}
use Rattle.scenario_lanes.proofs.purchase.no_terminal_tears.Given as goal

abbrev pub invariant-loop-index : goal.invariant-loop-index
invariant-loop-index l =
    no_terminal_tears l.lane l.index (drop l.index l.purchases) ≡ no_terminal_tears l.lane 0 l.purchases
