use Rattle.std.proofs.Common.{◌-◌, codes}
use Rattle.report_lines.specs.Bits.{bits_told_from}
use Rattle.report_lines.specs.Pieces.{text}
use Rattle.report_lines.proofs.Telling.{Left}
use Rattle.object_words.specs.Results.{tvr_bits_words, result_bit_words}
use Rattle.object_words.proofs.results.tell_result_bits.Given as goal

abbrev pub invariant-loop-place : goal.invariant-loop-place
invariant-loop-place l = Left l.fn.out l.out (tvr_bits_words l.results) (bits_told_from 40 (text (codes "; ")) result_bit_words l.results l.told l.place (40 - l.place))
