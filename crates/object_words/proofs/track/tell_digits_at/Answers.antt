use Rattle.std.proofs.Common.{◌+◌, ◌-◌, get_or, arith}
use Rattle.emv_dict.specs.Nibbles.{nibbles}
use Rattle.report_lines.specs.Pieces.{number}
use Rattle.report_lines.proofs.Telling.{left_more, left_as, left_end}
use Rattle.object_words.specs.Tracks.{half_digits}
use Rattle.object_words.proofs.Halves.{digits-next, digits-end}
use Rattle.object_words.proofs.track.tell_digits_at.Goals as goal

pub loop-place-preserved : goal.loop-place-preserved
loop-place-preserved c =
    let value = c.args.value.now in
    let place = c.loop-place.place in
    let end = c.args.from + c.args.count in
    let next = digits-next value place end (omega arith) in
    left_more _ _ _ _ (number (get_or (nibbles value) place 0)) (half_digits value (place + 1) (end - (place + 1))) (left_as _ _ _ _ _ next c.loop-place.invariant) (rw (c.from.ensures, c.nibble_at.ensures.value) at c.number.ensures)

pub returns : goal.returns
returns c =
    let end = digits-end c.args.value.now c.loop-place.place (c.args.from + c.args.count) (omega arith) in
    left_end _ _ _ (left_as _ _ _ _ _ end c.loop-place.invariant)
