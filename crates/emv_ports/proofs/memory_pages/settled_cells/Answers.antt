use Rattle.std.proofs.Common.{arith}
use Rattle.std.proofs.lemmas.List.{length-set}
use Rattle.emv_ports.specs.Cell.{gives_byte}
use Rattle.emv_ports.proofs.Cells.{settle_step, list_all_step}
use Rattle.emv_ports.proofs.memory_pages.settled_cells.Goals as goal

pub loop-i-preserved : goal.loop-i-preserved
loop-i-preserved c = (
  grind (arith, length-set),
  settle_step c.args.power_up c.loop-i.i c.loop-i.settled c.args.cells.now c.settled.result _
      (omega arith) (omega arith) c.loop-i.invariant.1 c.settled.ensures.cell,
  list_all_step gives_byte c.loop-i.i c.loop-i.settled c.settled.result (omega arith) c.loop-i.invariant.2 c.settled.ensures.byte,
)
