use Rattle.std.proofs.Common.{sym}
use Rattle.emv_ports.proofs.Cells.{settled_from-sure}
use Rattle.emv_ports.proofs.Known.{sure_page}
use Rattle.emv_ports.proofs.memory_pages.settle_page.Goals as goal

pub returns-then-are_sure-clause-cells : goal.returns-then-are_sure-clause-cells
returns-then-are_sure-clause-cells c = sym (settled_from-sure c.args.power_up 0 c.args.cells.now (c.are_sure.ensures.sure c.if-are_sure.true))

pub returns-then-are_sure-clause-sure : goal.returns-then-are_sure-clause-sure
returns-then-are_sure-clause-sure c none = sure_page c.args.cells.now (c.are_sure.ensures.page c.if-are_sure.true) (c.are_sure.ensures.sure c.if-are_sure.true)
