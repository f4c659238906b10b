use Rattle.std.proofs.Common.{◌≡◌, take}
use Rattle.ending_words.specs.Endings.{hex_digits_number}
use Rattle.ending_words.proofs.digits.digits_number.Given as goal

abbrev pub invariant-loop-digit : goal.invariant-loop-digit
invariant-loop-digit l = l.number ≡ hex_digits_number (take l.digit-index l.digits)
