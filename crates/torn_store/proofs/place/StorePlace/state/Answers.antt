use Rattle.std.proofs.Common.{ap, sym}
use Rattle.torn_store.specs.Store.{Stored}
use Rattle.torn_store.proofs.Stored.{placed_holds}
use Rattle.torn_store.proofs.place.StorePlace.state.Goals as goal

pub returns-clause-holds : goal.returns-clause-holds
returns-clause-holds g c on =
    placed_holds c.args.self.now (g.P.Pages.memory c.self.inside.pages) c.self.inside.state.items c.self.view_is c.self.invariant.1 on
    c.args.self.now.memory.cells (sym (ap (λ (s : Stored). s.memory.cells) c.self.view_is))
