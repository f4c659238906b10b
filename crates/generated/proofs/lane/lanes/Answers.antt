use Rattle.generated.proofs.Numbered.{numbered_push}
use Rattle.generated.specs.Lanes.{generated_lane}
use Rattle.generated.proofs.lane.lanes.Goals as goal

pub loop-number-preserved : goal.loop-number-preserved
loop-number-preserved c =
    numbered_push (generated_lane c.args.count) c.loop-number.lanes.items c.push.new.self.items c.loop-number.number c.in_ok-lane.field-0
    c.in_ok-push.ensures.items c.in_ok-lane.ensures c.loop-number.invariant
