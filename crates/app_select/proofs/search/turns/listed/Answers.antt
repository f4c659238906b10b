use Rattle.std.proofs.Common.{false, refl, sym, append-nil}
use Rattle.app_select.specs.Said.{Unreadable, Blocked, Nothing}
use Rattle.app_select.proofs.Turns.{list_faulty, list_told}
use Rattle.app_select.proofs.search.turns.listed.Goals as goal

pub returns-in-Unreadable-clause-leads : goal.returns-in-Unreadable-clause-leads
returns-in-Unreadable-clause-leads c whole answers leads =
    let course = c.args.course in
    list_faulty whole answers c.args.candidates.now course.row.row.now course.later.now course.turn course.confirm c.args.reply.now Unreadable _ c.in-Unreadable.ensures.exact refl leads

pub returns-in-Blocked-clause-leads : goal.returns-in-Blocked-clause-leads
returns-in-Blocked-clause-leads c whole answers leads =
    let course = c.args.course in
    list_faulty whole answers c.args.candidates.now course.row.row.now course.later.now course.turn course.confirm c.args.reply.now Blocked _ c.in-Blocked.ensures.exact refl leads

pub returns-in-Named-clause-leads : goal.returns-in-Named-clause-leads
returns-in-Named-clause-leads c whole answers leads = c.named.ensures.leads whole answers c.args.reply.now (sym c.in-Named.ensures.exact) leads

pub returns-in-Nothing-clause-leads : goal.returns-in-Nothing-clause-leads
returns-in-Nothing-clause-leads c whole answers leads =
    let course = c.args.course in
    c.next_row.ensures.leads whole _
    (list_told whole answers c.args.candidates.now c.args.candidates.now course.row.row.now course.later.now course.turn course.confirm false c.args.reply.now Nothing c.in-Nothing.ensures.exact refl refl
    (sym (append-nil c.args.candidates.now)) leads)
