use Rattle.std.proofs.Common.{◌≡◌, take, drop}
use Rattle.std.specs.List.{All}
use Rattle.scenario_lanes.specs.Cards.{known_from}
use Rattle.scenario_lanes.specs.Plan.{HasCards}
use Rattle.scenario_lanes.proofs.cards.known_cards.Given as goal

abbrev pub invariant-loop-index : goal.invariant-loop-index
invariant-loop-index l = record {
  rest : known_from l.cards l.index (drop l.index l.lanes) ≡ known_from l.cards 0 l.lanes;
  known : All (HasCards l.cards) (take l.index l.lanes);
}
