use Rattle.std.proofs.Common.{◌≡◌, take, length}
use Rattle.emv_ports.specs.Cell.{all_torn_over}
use Rattle.emv_ports.proofs.memory_pages.torn_cells.Given as goal

abbrev pub invariant-loop-i : goal.invariant-loop-i
invariant-loop-i l = (length l.torn ≡ 64) × (take l.i l.torn ≡ all_torn_over (take l.i l.cells) (take l.i l.bytes))
