use Rattle.std.proofs.Common.{ap, ◌∙◌}
use Rattle.card_check.proofs.Growing.{lane_more}
use Rattle.card_check.proofs.verdicts.push_lane.Goals as goal
use Rattle.scenario_lanes.specs.Plan.{LaneData}

pub loop-index-preserved : goal.loop-index-preserved
loop-index-preserved c =
    lane_more c.args.cards.now c.args.lane.now c.args.number c.deref-planned-items.result.now c.lane.inside.settings c.loop-index.index c.planned-item.result
    c.index-cards-planned.result _ _ _ c.requires (c.deref-planned-items.ensures.value ∙ ap (λ (l : LaneData). l.purchases) c.lane.view_is)
    (ap (λ (l : LaneData). l.settings) c.lane.view_is) c.loop-index-test.true c.planned-item.is c.index-cards-planned.is c.loop-index.invariant
    c.in_ok-push_line.ensures
