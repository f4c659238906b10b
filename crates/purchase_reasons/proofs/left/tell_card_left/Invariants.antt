use Rattle.std.proofs.Common.{drop}
use Rattle.report_lines.proofs.Telling.{Left}
use Rattle.purchase_reasons.specs.Left.{apps_told, left_in_line, named_left}
use Rattle.purchase_reasons.proofs.left.tell_card_left.Given as goal

abbrev pub invariant-loop-app : goal.invariant-loop-app
invariant-loop-app l =
    Left l.fn.out l.out (named_left l.apps l.changed l.name l.counters) (left_in_line l.told l.name (apps_told l.name l.changed l.counters (drop l.app-index l.apps)))
