use Rattle.std.proofs.Common.{◌++◌, map, sym, subst}
use Rattle.emv_ports.specs.Memory.{Memory}
use Rattle.torn_store.specs.Conversion.{converted}
use Rattle.torn_store.specs.Layout.{recover}
use Rattle.torn_store.specs.Placed.{OpensStore}
use Rattle.torn_store.specs.Recovery.{Among}
use Rattle.torn_store.specs.Writing.{LostAt}
use Rattle.torn_store.proofs.by_value.Store.open_with.Goals as goal

pub returns-in-Err-clause-lost : goal.returns-in-Err-clause-lost
returns-in-Err-clause-lost g c states among =
    subst (λ (m : Memory). Among recover m.cells (states ++ map (converted (g.C.Convert.means c.args.convert.now)) states)) (sym c.cut_off.ensures)
    (c.in-Err.ensures.lost states (subst (λ (m : Memory). Among recover m.cells states) (sym c.new-place.ensures) among))

pub returns-in-Ok-clause-opens : goal.returns-in-Ok-clause-opens
returns-in-Ok-clause-opens g c = subst (λ (m : Memory). OpensStore m c.power_up_with.new.self) c.new-place.ensures c.in-Ok.ensures.opens

pub returns-in-Err-clause-gone : goal.returns-in-Err-clause-gone
returns-in-Err-clause-gone g c =
    subst (λ (m : Memory). LostAt (g.P.Pages.memory c.args.pages) m) (sym c.cut_off.ensures)
    (subst (λ (m : Memory). LostAt m c.power_up_with.new.self.memory) c.new-place.ensures c.in-Err.ensures.gone)
