use Rattle.emv_ports.proofs.Roughening.{PagesSoFar}
use Rattle.emv_ports.proofs.memory_pages.roughen_pages.Given as goal

abbrev pub invariant-loop-page : goal.invariant-loop-page
invariant-loop-page l = PagesSoFar l.word l.power_up l.initial.pages l.page l.pages
