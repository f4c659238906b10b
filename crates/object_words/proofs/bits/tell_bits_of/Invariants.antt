use Rattle.std.proofs.Common.{◌-◌, true, codes}
use Rattle.report_lines.specs.Bits.{bits_told_from}
use Rattle.report_lines.specs.Pieces.{text}
use Rattle.report_lines.proofs.Telling.{Left}
use Rattle.object_words.specs.Bits.{byte_bits, bit_number}
use Rattle.object_words.proofs.bits.tell_bits_of.Given as goal

abbrev pub invariant-loop-place : goal.invariant-loop-place
invariant-loop-place l = Left l.fn.out l.out (byte_bits l.number l.byte) (bits_told_from 8 (text (codes " ")) (bit_number l.number) l.byte true l.place (8 - l.place))
