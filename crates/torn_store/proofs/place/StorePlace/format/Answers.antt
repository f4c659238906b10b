use Rattle.std.proofs.Common.{sym, subst}
use Rattle.torn_store.specs.Placed.{MayFormat, FormatsStore}
use Rattle.torn_store.specs.Store.{Stored}
use Rattle.torn_store.proofs.Stored.{formats_store}
use Rattle.torn_store.proofs.place.StorePlace.format.Goals as goal

pub prepare-requires : goal.prepare-requires
prepare-requires g c = record { may = subst (λ (s : Stored). MayFormat s.memory c.args.first.now) (sym c.self.view_is) c.requires }

pub returns : goal.returns
returns g c =
    let old = g.P.Pages.memory c.self.inside.pages in
    let new = g.P.Pages.memory c.prepare.new.pages in
    rw c.fill.ensures
    (subst (λ (s : Stored). FormatsStore s.memory c.args.first.now (record { memory = new; state = c.args.first.now })) c.self.view_is
    (formats_store old new c.args.first.now c.prepare.ensures.ready c.prepare.ensures.commit c.prepare.ensures.plan c.prepare.ensures.losses
    c.prepare.ensures.once))
