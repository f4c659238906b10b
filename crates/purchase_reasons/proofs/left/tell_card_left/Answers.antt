use Rattle.std.proofs.Common.{arith}
use Rattle.report_lines.proofs.Telling.{left_start, left_more, left_as, left_end}
use Rattle.purchase_reasons.proofs.Leaving.{apps-next, apps-end}
use Rattle.purchase_reasons.proofs.left.tell_card_left.Goals as goal

pub loop-app-init : goal.loop-app-init
loop-app-init c = left_start _ _

pub loop-app-preserved : goal.loop-app-preserved
loop-app-preserved c =
    let next = apps-next c.loop-app.told c.args.name.now c.args.changed.now c.args.counters.now c.args.apps.now c.loop-app.app-index c.app-item.result (omega arith) c.app-item.is in
    rw c.tell_app-told.ensures.told
    (rw c.app_known-known.ensures (left_more _ _ _ _ _ _ (left_as _ _ _ _ _ next c.loop-app.invariant) (rw c.app_known-known.ensures at c.tell_app-told.ensures.words)))

pub returns : goal.returns
returns c =
    let end = apps-end c.loop-app.told c.args.name.now c.args.changed.now c.args.counters.now c.args.apps.now c.loop-app.app-index (omega arith) in
    left_end _ _ _ (left_as _ _ _ _ _ end c.loop-app.invariant)
