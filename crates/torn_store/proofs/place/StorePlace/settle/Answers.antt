use Rattle.torn_store.proofs.Stored.{releases, release_torn}
use Rattle.torn_store.proofs.place.StorePlace.settle.Goals as goal

pub returns-in-Ok-clause-released : goal.returns-in-Ok-clause-released
returns-in-Ok-clause-released g c =
    releases c.args.self.now (g.P.Pages.memory c.self.inside.pages) c.self.inside.state.items c.self.view_is c.self.invariant.1 c.requires.on
    (g.P.Pages.memory c.release.new.self) c.in-Ok.ensures.spared c.in-Ok.ensures.same

pub returns-in-Err-clause-torn : goal.returns-in-Err-clause-torn
returns-in-Err-clause-torn g c =
    release_torn c.args.self.now (g.P.Pages.memory c.self.inside.pages) c.self.inside.state.items c.self.view_is c.self.invariant.1 c.requires.on
    (g.P.Pages.memory c.release.new.self) c.in-Err.ensures.cut c.in-Err.ensures.gone
