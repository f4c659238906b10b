use Rattle.emv_ports.proofs.Roughening.{page_step, page_end}
use Rattle.emv_ports.proofs.memory_pages.roughen_page.Goals as goal

pub loop-i-preserved : goal.loop-i-preserved
loop-i-preserved c =
    page_step c.args.word c.args.power_up c.args.page c.loop-i.i c.rough_byte.result c.args.cells.now c.loop-i.cells c.roughened.result _
    c.loop-i-test.true c.told-cells c.loop-i.invariant c.rough_byte.ensures c.roughened.ensures.sure c.roughened.ensures.given

pub returns-clause-given : goal.returns-clause-given
returns-clause-given c =
    page_end c.args.word c.args.power_up c.args.page c.loop-i.i c.args.cells.now c.loop-i.cells
    c.loop-i-test.false c.told-cells c.loop-i.invariant
