use Rattle.std.proofs.Common.{arith, map}
use Rattle.report_lines.proofs.Telling.{left_start, left_more, left_as, left_end}
use Rattle.object_words.proofs.Bytes.{words_next, words_end}
use Rattle.object_words.proofs.bits.tell_bit_words.Goals as goal

pub loop-index-init : goal.loop-index-init
loop-index-init c = left_start _ _

pub loop-index-preserved : goal.loop-index-preserved
loop-index-preserved c =
    let next = words_next (map (λ w. (w.0, w.1.now)) c.args.table.now) (map (λ w. (w.0, w.1.now)) c.args.references.now) c.args.value.now c.loop-index.index (omega arith) in
    left_more _ _ _ _ _ _ (left_as _ _ _ _ _ next c.loop-index.invariant) c.tell_words_of.ensures

pub returns : goal.returns
returns c =
    let end = words_end (map (λ w. (w.0, w.1.now)) c.args.table.now) (map (λ w. (w.0, w.1.now)) c.args.references.now) c.args.value.now c.loop-index.index (omega arith) in
    left_end _ _ _ (left_as _ _ _ _ _ end c.loop-index.invariant)
