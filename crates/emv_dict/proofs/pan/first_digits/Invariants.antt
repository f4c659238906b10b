use Rattle.std.proofs.Common.{◌≡◌, take}
use Rattle.emv_dict.specs.Nibbles.{nibbles}
use Rattle.emv_dict.proofs.pan.first_digits.Given as goal

abbrev pub invariant-loop-place : goal.invariant-loop-place
invariant-loop-place l = l.digits ≡ take l.place (nibbles l.field)
