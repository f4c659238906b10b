use Rattle.std.proofs.Common.{true, codes, arith}
use Rattle.report_lines.specs.Pieces.{text}
use Rattle.report_lines.proofs.Telling.{left_start, left_more, left_as, left_end, bits_next, bits_end}
use Rattle.object_words.specs.Bits.{bit_number}
use Rattle.object_words.proofs.bits.tell_bits_of.Goals as goal

pub loop-place-init : goal.loop-place-init
loop-place-init c = left_start _ _

pub loop-place-preserved : goal.loop-place-preserved
loop-place-preserved c =
    let next = bits_next 8 (text (codes " ")) (bit_number c.args.number) c.args.byte true c.loop-place.place 8 (omega arith) in
    left_more _ _ _ _ _ _ (left_as _ _ _ _ _ next c.loop-place.invariant) c.tell_bit_number.ensures

pub returns : goal.returns
returns c =
    let end = bits_end 8 (text (codes " ")) (bit_number c.args.number) c.args.byte true c.loop-place.place 8 (omega arith) in
    left_end _ _ _ (left_as _ _ _ _ _ end c.loop-place.invariant)
