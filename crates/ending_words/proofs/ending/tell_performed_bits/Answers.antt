use Rattle.std.proofs.Common.{codes, arith}
use Rattle.report_lines.specs.Pieces.{text}
use Rattle.report_lines.proofs.Telling.{left_start, left_more, left_as, left_end, bits_next, bits_end}
use Rattle.ending_words.specs.Endings.{performed_word}
use Rattle.ending_words.proofs.ending.tell_performed_bits.Goals as goal

pub loop-place-init : goal.loop-place-init
loop-place-init c = left_start _ _

pub loop-place-preserved : goal.loop-place-preserved
loop-place-preserved c =
    let next = bits_next 16 (text (codes ", ")) performed_word c.args.status c.loop-place.told c.loop-place.place 16 (omega arith) in
    rw c.tell_performed_bit-told.ensures.told (left_more _ _ _ _ _ _ (left_as _ _ _ _ _ next c.loop-place.invariant) c.tell_performed_bit-told.ensures.words)

pub returns : goal.returns
returns c =
    let end = bits_end 16 (text (codes ", ")) performed_word c.args.status c.loop-place.told c.loop-place.place 16 (omega arith) in
    left_end _ _ _ (left_as _ _ _ _ _ end c.loop-place.invariant)
