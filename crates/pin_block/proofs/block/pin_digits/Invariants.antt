use Rattle.std.proofs.Common.{◌≡◌, take, drop, length}
use Rattle.emv_dict.specs.Nibbles.{nibbles}
use Rattle.pin_block.proofs.block.pin_digits.Given as goal

abbrev pub invariant-loop-i : goal.invariant-loop-i
invariant-loop-i l = record { size : length l.numbers ≡ 12; so_far : take l.i l.numbers ≡ take l.i (drop 2 (nibbles l.bytes)) }
