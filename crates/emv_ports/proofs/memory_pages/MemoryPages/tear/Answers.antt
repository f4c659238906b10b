use Rattle.emv_ports.proofs.PowerUp.{tears_page}
use Rattle.emv_ports.proofs.memory_pages.MemoryPages.tear.Goals as goal

pub returns-clause-memory : goal.returns-clause-memory
returns-clause-memory c = rw (← c.self.view_is)
    (tears_page c.self.inside.cells c.args.page c.args.bytes.now c.torn_cells.result c.self.inside.on c.self.inside.plan
    c.self.inside.commit c.self.inside.writes_of_commit c.self.inside.losses c.self.inside.power_ups c.torn_cells.ensures)
