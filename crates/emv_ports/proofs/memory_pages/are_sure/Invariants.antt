use Rattle.std.proofs.Common.{take, IsTrue}
use Rattle.std.specs.List.{list_all}
use Rattle.emv_ports.specs.Cell.{is_sure, gives_byte}
use Rattle.emv_ports.proofs.memory_pages.are_sure.Given as goal

abbrev pub invariant-loop-i : goal.invariant-loop-i
invariant-loop-i l = IsTrue (list_all is_sure (take l.i l.cells)) × IsTrue (list_all gives_byte (take l.i l.cells))
