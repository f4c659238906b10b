use Rattle.std.proofs.Common.{arith}
use Rattle.std.proofs.lemmas.List.{length-set}
use Rattle.emv_ports.proofs.Cells.{torn_step}
use Rattle.emv_ports.proofs.memory_pages.torn_cells.Goals as goal

pub loop-i-preserved : goal.loop-i-preserved
loop-i-preserved c = (
  grind (arith, length-set),
  torn_step c.loop-i.i c.loop-i.torn c.args.cells.now c.args.bytes.now c.torn_over.result _
      (omega arith) (omega arith) (omega arith) c.loop-i.invariant.1 c.torn_over.ensures,
)
