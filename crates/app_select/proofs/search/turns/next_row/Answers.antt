use Rattle.std.proofs.Common.{◌<◌, length, sym, arith}
use Rattle.std.proofs.lemmas.Bool.Decides.{nat_tests}
use Rattle.app_select.proofs.Turns.{list_ended}
use Rattle.app_select.proofs.search.turns.next_row.Goals as goal

pub returns-then-is_empty-clause-leads : goal.returns-then-is_empty-clause-leads
returns-then-is_empty-clause-leads c whole answers leads =
    let none : length c.args.later.now < 1 = grind (arith, nat_tests, c.is_empty.ensures, c.if-is_empty.true) in
    c.choose.ensures.leads whole answers (rw (sym c.arrange.ensures.candidates) at (list_ended whole answers c.args.candidates.now c.args.later.now c.args.confirm none leads))
