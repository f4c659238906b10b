use Rattle.std.proofs.Common.{true, false, refl, sym, ◌∙◌}
use Rattle.app_select.specs.Said.{Named}
use Rattle.app_select.specs.SeenSaid.{seen_fci}
use Rattle.app_select.proofs.Turns.{list_told}
use Rattle.app_select.proofs.search.turns.named.Goals as goal

pub returns-then-goes_on-clause-leads : goal.returns-then-goes_on-clause-leads
returns-then-goes_on-clause-leads c whole answers reply said leads =
    let course = c.args.course in
    let fci = seen_fci c.args.fci.now in
    list_told whole answers c.args.candidates.now c.add.new.candidates course.row.row.now course.later.now course.turn course.confirm true reply (Named c.args.valid fci) (sym said) refl
    (sym (c.goes_on.ensures.exact c.args.valid fci refl) ∙ c.if-goes_on.true) c.add.ensures.found leads

pub returns-else-goes_on-clause-leads : goal.returns-else-goes_on-clause-leads
returns-else-goes_on-clause-leads c whole answers reply said leads =
    let course = c.args.course in
    let fci = seen_fci c.args.fci.now in
    c.next_row.ensures.leads whole _
    (list_told whole answers c.args.candidates.now c.add.new.candidates course.row.row.now course.later.now course.turn course.confirm false reply (Named c.args.valid fci) (sym said) refl
    (sym (c.goes_on.ensures.exact c.args.valid fci refl) ∙ c.if-goes_on.false) c.add.ensures.found leads)
