use Rattle.std.proofs.Common.{◌≡◌, map, take, length}
use Rattle.emv_ports.specs.Cell.{given_of}
use Rattle.emv_ports.proofs.memory_pages.given_bytes.Given as goal

abbrev pub invariant-loop-i : goal.invariant-loop-i
invariant-loop-i l = (length l.bytes ≡ 64) × (take l.i l.bytes ≡ map given_of (take l.i l.cells))
