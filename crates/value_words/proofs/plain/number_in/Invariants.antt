use Rattle.std.proofs.Common.{◌≡◌, take}
use Rattle.value_words.specs.Plain.{binary_number}
use Rattle.value_words.proofs.plain.number_in.Given as goal

abbrev pub invariant-loop-byte : goal.invariant-loop-byte
invariant-loop-byte l = l.number ≡ binary_number (take l.byte-index l.value)
