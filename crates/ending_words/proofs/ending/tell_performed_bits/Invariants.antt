use Rattle.std.proofs.Common.{◌-◌, codes}
use Rattle.report_lines.specs.Bits.{bits_told_from}
use Rattle.report_lines.specs.Pieces.{text}
use Rattle.report_lines.proofs.Telling.{Left}
use Rattle.ending_words.specs.Endings.{performed_word, performed_bits}
use Rattle.ending_words.proofs.ending.tell_performed_bits.Given as goal

abbrev pub invariant-loop-place : goal.invariant-loop-place
invariant-loop-place l = Left l.fn.out l.out (performed_bits l.status) (bits_told_from 16 (text (codes ", ")) performed_word l.status l.told l.place (16 - l.place))
