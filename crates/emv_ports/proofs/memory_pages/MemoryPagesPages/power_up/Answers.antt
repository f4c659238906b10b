use Rattle.emv_ports.proofs.PowerUp.{powers_up}
use Rattle.emv_ports.proofs.memory_pages.MemoryPagesPages.power_up.Goals as goal

pub returns-clause-memory : goal.returns-clause-memory
returns-clause-memory c = rw (← c.self.view_is)
    (powers_up c.self.inside.cells c.settle_if-torn.new.pages _ c.self.inside.on c.self.inside.plan c.self.inside.commit
    c.self.inside.writes_of_commit c.self.inside.losses c.self.inside.power_ups _ c.settle_if-torn.ensures.settles.cells c.settle_if-torn.ensures.settles.long c.settle_if-torn.ensures.settles.pages c.self.invariant.1 c.saturating_add-self-inside.ensures)
