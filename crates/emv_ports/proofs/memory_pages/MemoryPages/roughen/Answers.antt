use Rattle.emv_ports.proofs.Known.{still_sure}
use Rattle.emv_ports.proofs.memory_pages.MemoryPages.roughen.Goals as goal

pub invariant_of-self : goal.invariant_of-self
invariant_of-self c = (
  c.self.invariant.0,
  c.self.invariant.1,
  λ none. still_sure c.self.inside.cells c.roughen_pages.new.pages c.roughen_pages.ensures.sure (c.self.invariant.2 none),
)
