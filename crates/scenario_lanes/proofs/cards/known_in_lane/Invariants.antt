use Rattle.std.proofs.Common.{◌≡◌, ◌<◌, take, drop}
use Rattle.std.specs.List.{All}
use Rattle.scenario_lanes.specs.Cards.{known_in_lane}
use Rattle.scenario_lanes.proofs.cards.known_in_lane.Given as goal

abbrev pub invariant-loop-index : goal.invariant-loop-index
invariant-loop-index l = record {
  rest : known_in_lane l.cards l.lane l.index (drop l.index l.purchases) ≡ known_in_lane l.cards l.lane 0 l.purchases;
  known : All (λ planned. planned.card < l.cards) (take l.index l.purchases);
}
