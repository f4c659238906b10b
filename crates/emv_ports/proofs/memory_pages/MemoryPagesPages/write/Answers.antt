use Rattle.std.proofs.Common.{rules}
use Rattle.emv_ports.proofs.Known.{set_sure}
use Rattle.emv_ports.proofs.PowerUp.{writes_page}
use Rattle.emv_ports.proofs.memory_pages.MemoryPagesPages.write.Goals as goal

pub returns-in-Spared-clause-writes : goal.returns-in-Spared-clause-writes
returns-in-Spared-clause-writes c = record {
  spared = search rules;
  written = rw (← c.self.view_is)
      (writes_page c.self.inside.cells c.args.page c.args.bytes.now c.sure_cells.result c.self.inside.on c.self.inside.plan
      c.self.inside.commit c.self.inside.writes_of_commit _ c.self.inside.losses c.self.inside.power_ups c.sure_cells.ensures.cells c.saturating_add-number.ensures);
  cut = tt;
}

pub invariant_of-self : goal.invariant_of-self
invariant_of-self c = (
  c.self.invariant.0,
  c.self.invariant.1,
  λ none. set_sure c.self.inside.cells c.args.page c.sure_cells.result (c.self.invariant.2 none) c.sure_cells.ensures.page,
)
