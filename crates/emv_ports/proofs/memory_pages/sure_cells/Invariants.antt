use Rattle.std.proofs.Common.{◌≡◌, map, take, length, IsTrue}
use Rattle.std.specs.List.{list_all}
use Rattle.emv_ports.specs.Cell.{gives_byte}
use Rattle.emv_ports.specs.declared.memory_pages.Cell.TheVariants.{Sure}
use Rattle.emv_ports.proofs.memory_pages.sure_cells.Given as goal

abbrev pub invariant-loop-i : goal.invariant-loop-i
invariant-loop-i l =
    (length l.cells ≡ 64) × (take l.i l.cells ≡ map Sure (take l.i l.bytes)) × IsTrue (list_all gives_byte (take l.i l.cells))
