use Rattle.std.proofs.Common.{sym, subst}
use Rattle.report_lines.specs.Pieces.{Tells}
use Rattle.report_lines.proofs.Telling.{tells_nothing}
use Rattle.purchase_reasons.specs.Kept.{CardsData}
use Rattle.purchase_reasons.specs.Reasons.{reasons_words}
use Rattle.narrator.proofs.report_past.ReportPast.tell_reasons_at.Goals as goal

pub returns-in-Some : goal.returns-in-Some
returns-in-Some c =
    let past = c.in-Some.past.now in
    let told = subst (λ (cards : CardsData). Tells c.args.out.now c.tell_reasons.new.out (reasons_words past.followed past.talk cards)) c.cards_known.ensures c.tell_reasons.ensures in
    rw (sym c.in-Some.ensures) told

pub returns-in_default : goal.returns-in_default
returns-in_default c = rw (sym c.in_default.ensures) (tells_nothing _)
