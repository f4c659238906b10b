use Rattle.std.proofs.Common.{arith}
use Rattle.report_lines.proofs.Telling.{left_start, left_more, left_as, left_end}
use Rattle.value_words.specs.Digits.{pair_words}
use Rattle.value_words.proofs.Places.{each-next, each-end}
use Rattle.value_words.proofs.plain.tell_halves.Goals as goal

pub loop-byte-init : goal.loop-byte-init
loop-byte-init c = left_start _ _

pub loop-byte-preserved : goal.loop-byte-preserved
loop-byte-preserved c =
    let next = each-next pair_words c.args.value.now c.loop-byte.byte-index (omega arith) in
    left_more _ _ _ _ _ _ (left_as _ _ _ _ _ next c.loop-byte.invariant) c.tell_pair.ensures

pub returns : goal.returns
returns c =
    let end = each-end pair_words c.args.value.now c.loop-byte.byte-index (omega arith) in
    left_end _ _ _ (left_as _ _ _ _ _ end c.loop-byte.invariant)
