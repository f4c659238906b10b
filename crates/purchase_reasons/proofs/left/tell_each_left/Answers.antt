use Rattle.std.proofs.Common.{arith}
use Rattle.report_lines.proofs.Telling.{left_start, left_more, left_as, left_end}
use Rattle.purchase_reasons.proofs.Leaving.{cards-next, cards-end}
use Rattle.purchase_reasons.proofs.left.tell_each_left.Goals as goal

pub loop-card-init : goal.loop-card-init
loop-card-init c = left_start _ _

pub loop-card-preserved : goal.loop-card-preserved
loop-card-preserved c =
    let next = cards-next c.args.apps.now c.args.changed.now c.args.seen.now c.loop-card.card-index c.card-item.result (omega arith) c.card-item.is in
    left_more _ _ _ _ _ _ (left_as _ _ _ _ _ next c.loop-card.invariant) (rw (c.as_slice.ensures.value, c.as_slice-in-loop-card.ensures.value) at c.tell_card_left.ensures)

pub returns : goal.returns
returns c =
    let end = cards-end c.args.apps.now c.args.changed.now c.args.seen.now c.loop-card.card-index (omega arith) in
    left_end _ _ _ (left_as _ _ _ _ _ end c.loop-card.invariant)
