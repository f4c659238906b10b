-- The plan leaves what the pages stand for.
use Rattle.std.proofs.Common.{[], Option, ap, sym, subst}
use Rattle.card_files.specs.Files.{opening_of}
use Rattle.emv_ports.specs.Memory.{Memory}
use Rattle.emv_ports.specs.declared.tear.Tear.{Tear}
use Rattle.torn_store.proofs.Outcomes.{on_ok_two}
use Rattle.card_app.specs.Pages.{MayStand, found_of}
use Rattle.card_app.specs.SeenCard.{CardSeen, CardOn}
use Rattle.card_app.proofs.icc.Icc.power_up.Goals as goal

pub returns-clause-found : goal.returns-clause-found
returns-clause-found g c =
    on_ok_two c.turn_on.result
    (λ found stays kept pending off.
    let here = subst (λ (k : CardSeen). MayStand k.kept.memory.cells k.image.version (opening_of k.image) kept pending) (sym c.self.view_is) off.may in
    let may = subst (λ (m : Memory). MayStand m.cells c.self.inside.image.now.version (opening_of c.self.inside.image.now) kept pending) (sym c.plan.ensures) here in
    let one = found kept pending may in (
      one.0,
      record {
        on = stays.on;
        card = subst (λ (p : Option Tear). CardOn c.turn_on.new.self [] (found_of kept pending one.0) p 0) (ap (λ (m : Memory). m.plan) c.plan.ensures) one.1;
      },
    ))
    c.turn_on.ensures.found c.turn_on.ensures.stays
