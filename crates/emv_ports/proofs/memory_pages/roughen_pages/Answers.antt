use Rattle.emv_ports.proofs.Roughening.{pages_step, pages_end}
use Rattle.emv_ports.proofs.memory_pages.roughen_pages.Goals as goal

pub loop-page-preserved : goal.loop-page-preserved
loop-page-preserved c =
    pages_step c.args.word c.args.power_up c.loop-page.page c.args.pages.now c.loop-page.pages c.roughen_page.new.cells
    c.loop-page-test.true c.told-pages c.loop-page.invariant c.roughen_page.ensures.sure c.roughen_page.ensures.given

pub returns-clause-given : goal.returns-clause-given
returns-clause-given c =
    pages_end c.args.word c.args.power_up c.loop-page.page c.args.pages.now c.loop-page.pages
    c.loop-page-test.false c.told-pages c.loop-page.invariant
