use Rattle.std.proofs.Common.{◌+◌, drop}
use Rattle.report_lines.proofs.Telling.{Left}
use Rattle.object_words.specs.Bits.{bit_numbers, bit_numbers_from}
use Rattle.object_words.proofs.bits.tell_bit_numbers.Given as goal

abbrev pub invariant-loop-index : goal.invariant-loop-index
invariant-loop-index l = Left l.fn.out l.out (bit_numbers l.value) (bit_numbers_from (l.index + 1) (drop l.index l.value))
