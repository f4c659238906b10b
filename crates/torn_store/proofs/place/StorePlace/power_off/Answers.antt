use Rattle.std.proofs.Common.{ap}
use Rattle.emv_ports.specs.Memory.{Memory}
use Rattle.torn_store.proofs.Stored.{placed_holds}
use Rattle.torn_store.proofs.place.StorePlace.power_off.Goals as goal

pub returns-clause-holds : goal.returns-clause-holds
returns-clause-holds g c =
    placed_holds c.args.self.now (g.P.Pages.memory c.self.inside.pages) c.self.inside.state.items c.self.view_is c.self.invariant.1 c.requires.on
    (g.P.Pages.memory c.power_off.new.self).cells (ap (λ (m : Memory). m.cells) c.power_off.ensures)
