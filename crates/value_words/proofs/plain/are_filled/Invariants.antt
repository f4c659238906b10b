use Rattle.std.proofs.Common.{◌≡◌, drop, false}
use Rattle.value_words.specs.Digits.{are_filled}
use Rattle.value_words.proofs.plain.are_filled.Given as goal

abbrev pub invariant-loop-byte : goal.invariant-loop-byte
invariant-loop-byte l = are_filled l.filler (drop l.byte-index l.value) ≡ are_filled false l.value
