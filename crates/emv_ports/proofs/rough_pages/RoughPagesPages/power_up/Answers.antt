use Rattle.emv_ports.proofs.Roughening.{roughly_up}
use Rattle.emv_ports.proofs.rough_pages.RoughPagesPages.power_up.Goals as goal

pub returns-clause-memory : goal.returns-clause-memory
returns-clause-memory c = rw (← c.self.view_is, c.roughen.ensures)
    (roughly_up c.self.inside.word _ c.self.inside.pages.memory c.power_up.new.self.memory c.power_up.ensures.memory)
