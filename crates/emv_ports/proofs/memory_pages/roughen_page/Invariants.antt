use Rattle.emv_ports.proofs.Roughening.{PageSoFar}
use Rattle.emv_ports.proofs.memory_pages.roughen_page.Given as goal

abbrev pub invariant-loop-i : goal.invariant-loop-i
invariant-loop-i l = PageSoFar l.word l.power_up l.page l.initial.cells l.i l.cells
