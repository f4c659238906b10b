use Rattle.std.proofs.Common.{◌≡◌, take, length, IsTrue}
use Rattle.std.specs.List.{list_all}
use Rattle.emv_ports.specs.Cell.{settled_from, gives_byte}
use Rattle.emv_ports.proofs.memory_pages.settled_cells.Given as goal

abbrev pub invariant-loop-i : goal.invariant-loop-i
invariant-loop-i l =
    (length l.settled ≡ 64)
    × (take l.i l.settled ≡ settled_from l.power_up 0 (take l.i l.cells))
    × IsTrue (list_all gives_byte (take l.i l.settled))
