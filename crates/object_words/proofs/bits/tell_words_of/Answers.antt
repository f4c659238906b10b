use Rattle.std.proofs.Common.{true, codes, arith, map}
use Rattle.report_lines.specs.Pieces.{text}
use Rattle.report_lines.proofs.Telling.{left_start, left_more, left_as, left_end, bits_next, bits_end}
use Rattle.object_words.specs.Bits.{word_at}
use Rattle.object_words.proofs.bits.tell_words_of.Goals as goal

pub loop-place-init : goal.loop-place-init
loop-place-init c = left_start _ _

pub loop-place-preserved : goal.loop-place-preserved
loop-place-preserved c =
    let next = bits_next 8 (text (codes ", ")) (word_at (map (λ w. (w.0, w.1.now)) c.args.table.now) (map (λ w. (w.0, w.1.now)) c.args.references.now) c.args.number) c.args.byte true c.loop-place.place 8 (omega arith) in
    left_more _ _ _ _ _ _ (left_as _ _ _ _ _ next c.loop-place.invariant) c.tell_word_at.ensures

pub returns : goal.returns
returns c =
    let end = bits_end 8 (text (codes ", ")) (word_at (map (λ w. (w.0, w.1.now)) c.args.table.now) (map (λ w. (w.0, w.1.now)) c.args.references.now) c.args.number) c.args.byte true c.loop-place.place 8 (omega arith) in
    left_end _ _ _ (left_as _ _ _ _ _ end c.loop-place.invariant)
