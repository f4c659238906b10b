-- The card stands for the decisions that were found, at the start of a session.
use Rattle.std.proofs.Common.{[], sym, subst}
use Rattle.emv_ports.specs.Memory.{Memory}
use Rattle.card_files.specs.Files.{opening_of}
use Rattle.card_app.specs.Pages.{MayStand, found_of}
use Rattle.card_sessions.proofs.turned_on.Goals as goal

pub returns-in-Ok-clause-on : goal.returns-in-Ok-clause-on
returns-in-Ok-clause-on g c =
    let s = c.requires.card.stands in
    let may = subst (λ (m : Memory). MayStand m.cells c.args.image.now.version (opening_of c.args.image.now) s.0 s.1) (sym c.plan.ensures) s.2 in
    let found = c.in-Ok.ensures.found s.0 s.1 may in
    ([], found_of s.0 s.1 found.0, (g.P.Pages.memory c.plan.new.self).plan, 0, found.1)
