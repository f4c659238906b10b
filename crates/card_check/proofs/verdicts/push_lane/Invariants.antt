use Rattle.std.proofs.Common.{◌≡◌, ◌+◌, ◌++◌, drop}
use Rattle.card_check.proofs.verdicts.push_lane.Given as goal
use Rattle.card_check.specs.Verdicts.{lane_text, lines_text}
use Rattle.scenario_plan.specs.SeenCards.{seen_cards}

abbrev pub invariant-loop-index : goal.invariant-loop-index
invariant-loop-index l =
    l.out.items ++ lines_text (seen_cards l.cards) l.lane.settings l.number (l.index + 1) (drop l.index l.lane.purchases)
    ≡ l.fn.out.items ++ lane_text (seen_cards l.cards) l.number l.lane
