use Rattle.std.proofs.Common.{◌-◌, true, codes, map}
use Rattle.report_lines.specs.Bits.{bits_told_from}
use Rattle.report_lines.specs.Pieces.{text}
use Rattle.report_lines.proofs.Telling.{Left}
use Rattle.object_words.specs.Bits.{byte_words, word_at}
use Rattle.object_words.proofs.bits.tell_words_of.Given as goal

abbrev pub invariant-loop-place : goal.invariant-loop-place
invariant-loop-place l = Left l.fn.out l.out (byte_words (map (λ w. (w.0, w.1.now)) l.table) (map (λ w. (w.0, w.1.now)) l.references) l.number l.byte) (bits_told_from 8 (text (codes ", ")) (word_at (map (λ w. (w.0, w.1.now)) l.table) (map (λ w. (w.0, w.1.now)) l.references) l.number) l.byte true l.place (8 - l.place))
