use Rattle.std.proofs.Common.{sym, subst}
use Rattle.torn_store.specs.Layout.{recover}
use Rattle.torn_store.specs.Placed.{OpensStore}
use Rattle.torn_store.specs.Recovery.{Among}
use Rattle.torn_store.specs.Store.{Stored}
use Rattle.torn_store.specs.Writing.{LostAt}
use Rattle.torn_store.proofs.Stored.{opens_store}
use Rattle.torn_store.proofs.place.StorePlace.power_up_with.Goals as goal

pub returns-in-Ok-clause-opens : goal.returns-in-Ok-clause-opens
returns-in-Ok-clause-opens g c =
    let new = g.P.Pages.memory c.repair_with.new.pages in
    subst (λ (s : Stored). OpensStore s.memory (record { memory = new; state = c.in-Ok.state.items })) c.self.view_is
    (opens_store (g.P.Pages.memory c.self.inside.pages) new c.in-Ok.state.items c.in-Ok.ensures.ready c.in-Ok.ensures.turned_on)

pub returns-in-Err-clause-lost : goal.returns-in-Err-clause-lost
returns-in-Err-clause-lost g c states among =
    c.in-Err.ensures.lost states (subst (λ (s : Stored). Among recover s.memory.cells states) (sym c.self.view_is) among)

pub returns-in-Err-clause-gone : goal.returns-in-Err-clause-gone
returns-in-Err-clause-gone g c = subst (λ (s : Stored). LostAt s.memory (g.P.Pages.memory c.repair_with.new.pages)) c.self.view_is c.in-Err.ensures.gone
