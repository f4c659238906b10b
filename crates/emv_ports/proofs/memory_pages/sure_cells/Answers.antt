use Rattle.std.proofs.Common.{◌<◌, get_or, arith, refl, rules}
use Rattle.std.proofs.lemmas.List.{length-set}
use Rattle.emv_ports.specs.Cell.{gives_byte}
use Rattle.emv_ports.specs.declared.memory_pages.Cell.TheVariants.{Sure}
use Rattle.emv_ports.proofs.Cells.{list_all_step}
use Rattle.emv_ports.proofs.Known.{sure_step, written_page, byte_fits}
use Rattle.emv_ports.proofs.memory_pages.sure_cells.Goals as goal

pub loop-i-preserved : goal.loop-i-preserved
loop-i-preserved c =
    let byte = get_or c.args.bytes.now c.loop-i.i 0 in
    let fits : byte < 256 = search (rules, c.type_inv.bytes) in (
      grind (arith, length-set),
      sure_step c.loop-i.i c.loop-i.cells c.args.bytes.now byte (omega (arith, c.loop-i.invariant.0)) (omega (arith, c.told-bytes)) c.loop-i.invariant.1 refl,
      list_all_step gives_byte c.loop-i.i c.loop-i.cells (Sure byte) (omega (arith, c.loop-i.invariant.0)) c.loop-i.invariant.2 (byte_fits byte fits),
    )

pub returns-clause-page : goal.returns-clause-page
returns-clause-page c =
    written_page c.loop-i.i c.loop-i.cells c.args.bytes.now c.loop-i-test.false c.loop-i.invariant.0 c.loop-i.invariant.1 c.loop-i.invariant.2
