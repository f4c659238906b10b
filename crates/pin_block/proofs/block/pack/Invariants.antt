use Rattle.std.proofs.Common.{◌≡◌, ◌*◌, take, length}
use Rattle.emv_dict.specs.Nibbles.{packed}
use Rattle.pin_block.proofs.block.pack.Given as goal

abbrev pub invariant-loop-i : goal.invariant-loop-i
invariant-loop-i l = record { size : length l.bytes ≡ 8; so_far : take l.i l.bytes ≡ packed (take (2 * l.i) l.digits) }
