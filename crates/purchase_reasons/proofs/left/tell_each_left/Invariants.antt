use Rattle.std.proofs.Common.{drop}
use Rattle.std.specs.List.{flat_map}
use Rattle.report_lines.proofs.Telling.{Left}
use Rattle.purchase_reasons.specs.Left.{card_left}
use Rattle.purchase_reasons.proofs.left.tell_each_left.Given as goal

abbrev pub invariant-loop-card : goal.invariant-loop-card
invariant-loop-card l = Left l.fn.out l.out (flat_map (card_left l.apps l.changed) l.seen) (flat_map (card_left l.apps l.changed) (drop l.card-index l.seen))
