use Rattle.std.proofs.Common.{arith}
use Rattle.report_lines.proofs.Telling.{left_start, left_more, left_as, left_end}
use Rattle.message_words.proofs.Apps.{apps_next, apps_end}
use Rattle.message_words.proofs.power.tell_each.Goals as goal

pub loop-place-init : goal.loop-place-init
loop-place-init c = left_start _ _

pub loop-place-preserved : goal.loop-place-preserved
loop-place-preserved c =
    let next = apps_next c.args.several c.args.before.now c.args.apps.now c.loop-place.place _ c.loop-place-test.true in
    left_more _ _ _ _ _ _ (left_as _ _ _ _ _ next c.loop-place.invariant) c.tell_app.ensures

pub returns : goal.returns
returns c =
    let end = apps_end c.args.several c.args.before.now c.args.apps.now c.loop-place.place (omega arith) in
    left_end _ _ _ (left_as _ _ _ _ _ end c.loop-place.invariant)
