use Rattle.std.proofs.Common.{arith}
use Rattle.emv_ports.specs.Cell.{is_sure_page}
use Rattle.emv_ports.proofs.Cells.{list_all_step}
use Rattle.emv_ports.proofs.Known.{neither_true, sure_end}
use Rattle.emv_ports.proofs.Settling.{settling_step, settling_end}
use Rattle.emv_ports.proofs.memory_pages.settle.Goals as goal

pub loop-page-preserved : goal.loop-page-preserved
loop-page-preserved c = record {
  so_far = settling_step c.args.power_up c.loop-page.page c.args.pages.now c.loop-page.pages c.settle_page-torn.new.cells
      c.loop-page-test.true c.told-pages c.loop-page.invariant.so_far c.settle_page-torn.ensures.cells c.settle_page-torn.ensures.page;
  sure = λ none.
      let neither = neither_true c.loop-page.torn c.settle_page-torn.result none in
      list_all_step is_sure_page c.loop-page.page c.loop-page.pages c.settle_page-torn.new.cells
      (omega (arith, c.loop-page.invariant.so_far.long)) (c.loop-page.invariant.sure neither.0) (c.settle_page-torn.ensures.sure neither.1);
}

pub returns : goal.returns
returns c =
    let e = settling_end c.args.power_up c.loop-page.page c.args.pages.now c.loop-page.pages c.loop-page-test.false c.told-pages c.loop-page.invariant.so_far in
    record {
      cells = e.0;
      long = c.loop-page.invariant.so_far.long;
      pages = e.1;
      sure = λ none. sure_end c.loop-page.page c.loop-page.pages c.loop-page-test.false c.loop-page.invariant.so_far.long (c.loop-page.invariant.sure none);
    }
