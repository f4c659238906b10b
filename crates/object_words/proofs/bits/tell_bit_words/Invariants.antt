use Rattle.std.proofs.Common.{◌+◌, drop, map}
use Rattle.report_lines.proofs.Telling.{Left}
use Rattle.object_words.specs.Bits.{bit_words, bit_words_from}
use Rattle.object_words.proofs.bits.tell_bit_words.Given as goal

abbrev pub invariant-loop-index : goal.invariant-loop-index
invariant-loop-index l = Left l.fn.out l.out (bit_words (map (λ w. (w.0, w.1.now)) l.table) (map (λ w. (w.0, w.1.now)) l.references) l.value) (bit_words_from (map (λ w. (w.0, w.1.now)) l.table) (map (λ w. (w.0, w.1.now)) l.references) (l.index + 1) (drop l.index l.value))
