-- The card is at the start of a session, with the state that was found.
use Rattle.std.proofs.Common.{Option, refl, ap, sym, subst, ◌∙◌}
use Rattle.card_files.specs.Files.{opening_of}
use Rattle.card_state.specs.Totals.{totals}
use Rattle.card_state.specs.declared.state.CardState.{CardState}
use Rattle.emv_ports.specs.declared.tear.Tear.{Tear}
use Rattle.card_app.specs.Pages.{MayStand, found_of}
use Rattle.card_app.specs.SeenKept.{KeptOn}
use Rattle.card_app.specs.SeenCard.{CardSeen}
use Rattle.card_app.specs.Session.{phase_of}
use Rattle.card_app.proofs.Allowing.{count_is}
use Rattle.card_app.proofs.icc.Icc.turn_on.Goals as goal

pub power_up-requires-clause-stands : goal.power_up-requires-clause-stands
power_up-requires-clause-stands g c =
    let s = c.requires.stands in
    let may = subst (λ (k : CardSeen). MayStand k.kept.memory.cells k.image.version (opening_of k.image) s.0 s.1) (sym c.self.view_is) s.2 in
    let version = c.self.inside.image.now.version in
    (version, s.0, s.1, subst (λ (o : CardState). MayStand c.self.inside.kept.memory.cells version o s.0 s.1) (sym c.opening.ensures.value) may)

pub invariant_of-self : goal.invariant_of-self
invariant_of-self g c on =
    let s = c.requires.stands in
    let may = subst (λ (k : CardSeen). MayStand k.kept.memory.cells k.image.version (opening_of k.image) s.0 s.1) (sym c.self.view_is) s.2 in
    let found =
    c.in-Ok.ensures.found c.self.inside.image.now.version s.0 s.1
    (subst (λ (o : CardState). MayStand c.self.inside.kept.memory.cells c.self.inside.image.now.version o s.0 s.1) (sym c.opening.ensures.value) may) in
    let list = found_of s.0 s.1 found.0 in
    record {
      apps = count_is c.self.inside.image.now list c.power_up.new.self.state (found.1.state_is ∙ ap (λ (o : CardState). totals o list) c.opening.ensures.value);
      at = tt;
    }

pub returns-in-Ok-clause-found : goal.returns-in-Ok-clause-found
unfolding phase_of
returns-in-Ok-clause-found g c kept pending stands =
    let may = subst (λ (k : CardSeen). MayStand k.kept.memory.cells k.image.version (opening_of k.image) kept pending) (sym c.self.view_is) stands in
    let found =
    c.in-Ok.ensures.found c.self.inside.image.now.version kept pending
    (subst (λ (o : CardState). MayStand c.self.inside.kept.memory.cells c.self.inside.image.now.version o kept pending) (sym c.opening.ensures.value) may) in
    let list = found_of kept pending found.0 in
    let here = subst (λ (o : CardState). KeptOn c.power_up.new.self o list c.self.inside.kept.memory.plan 0) c.opening.ensures.value found.1 in
    let planned =
    subst (λ (p : Option Tear). KeptOn c.power_up.new.self (opening_of c.self.inside.image.now) list p 0)
    (ap (λ (k : CardSeen). k.kept.memory.plan) c.self.view_is) here in
    (found.0, record { kept = planned; phase_is = refl })
