use Rattle.std.proofs.Common.{◌-◌, codes}
use Rattle.report_lines.specs.Bits.{bits_told_from}
use Rattle.report_lines.specs.Pieces.{text}
use Rattle.report_lines.proofs.Telling.{Left}
use Rattle.value_words.specs.ReasonWords.{bit_place_words, bit_places_words}
use Rattle.value_words.proofs.told.tell_bits.Given as goal

abbrev pub invariant-loop-place : goal.invariant-loop-place
invariant-loop-place l = Left l.fn.out l.out (bit_places_words l.bits) (bits_told_from 40 (text (codes " ")) bit_place_words l.bits l.told l.place (40 - l.place))
