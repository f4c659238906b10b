-- The state that is found is that of one of the two lists.
use Rattle.std.proofs.Common.{sym, subst}
use Rattle.torn_store.specs.Writing.{LostAt}
use Rattle.capture_store.specs.ListPages.{StandForOneOf}
use Rattle.capture_store.specs.SeenCaptureList.{CaptureListSeen, OpensList}
use Rattle.capture_store.specs.Spelling.{state_of_list, list_of_state}
use Rattle.capture_store.proofs.Finding.{one_state, one_list, opens_list}
use Rattle.capture_store.proofs.capture_list.CaptureList.open.Goals as goal

pub power_up-requires-clause-between : goal.power_up-requires-clause-between
power_up-requires-clause-between g c =
    let s = c.requires.stands in
    let here = subst (λ (k : CaptureListSeen). StandForOneOf k.memory.cells s.0 s.1) (sym c.self.view_is) s.2 in
    (state_of_list s.0, state_of_list s.1, here.between)

pub invariant_of-self-2 : goal.invariant_of-self-2
invariant_of-self-2 g c on =
    let s = c.requires.stands in
    let here = subst (λ (k : CaptureListSeen). StandForOneOf k.memory.cells s.0 s.1) (sym c.self.view_is) s.2 in
    one_state s.0 s.1 c.self.inside.place.memory.cells c.power_up.new.self.state here (c.in-Ok.ensures.found (state_of_list s.0) (state_of_list s.1) here.between)

pub returns-clause-found : goal.returns-clause-found
returns-clause-found g c before after stands =
    let here = subst (λ (k : CaptureListSeen). StandForOneOf k.memory.cells before after) (sym c.self.view_is) stands in
    one_list before after c.power_up.new.self.state (c.in-Ok.ensures.found (state_of_list before) (state_of_list after) here.between)

pub returns-clause-opens : goal.returns-clause-opens
returns-clause-opens g c =
    let s = c.requires.stands in
    let here = subst (λ (k : CaptureListSeen). StandForOneOf k.memory.cells s.0 s.1) (sym c.self.view_is) s.2 in
    let new = c.power_up.new.self in
    let is = one_state s.0 s.1 c.self.inside.place.memory.cells new.state here (c.in-Ok.ensures.found (state_of_list s.0) (state_of_list s.1) here.between) in
    subst (λ (k : CaptureListSeen). OpensList k.memory (record { memory = new.memory; list = list_of_state new.state })) c.self.view_is
    (opens_list c.self.inside.place.memory new c.in-Ok.ensures.opens is)

pub returns-in-Err-clause-lost : goal.returns-in-Err-clause-lost
returns-in-Err-clause-lost g c before after stands =
    let here = subst (λ (k : CaptureListSeen). StandForOneOf k.memory.cells before after) (sym c.self.view_is) stands in
    record { fits = here.fits; fits_after = here.fits_after; between = c.in-Err.ensures.lost (state_of_list before) (state_of_list after) here.between }

pub returns-in-Err-clause-gone : goal.returns-in-Err-clause-gone
returns-in-Err-clause-gone g c = subst (λ (k : CaptureListSeen). LostAt k.memory c.power_up.new.self.memory) c.self.view_is c.in-Err.ensures.gone
