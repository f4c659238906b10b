use Rattle.std.proofs.Common.{[], true, arith}
use Rattle.report_lines.proofs.Telling.{left_start, left_more, left_as, left_end, bits_next, bits_end}
use Rattle.object_words.specs.Results.{result_line, codes_held}
use Rattle.object_words.proofs.results.tell_result_lines.Goals as goal

pub loop-place-init : goal.loop-place-init
loop-place-init c = left_start _ _

pub loop-place-preserved : goal.loop-place-preserved
loop-place-preserved c =
    let next = bits_next 40 [] (result_line c.args.level (codes_held c.args.codes)) c.args.results true c.loop-place.place 40 (omega arith) in
    left_more _ _ _ _ _ _ (left_as _ _ _ _ _ next c.loop-place.invariant) c.tell_result_line.ensures

pub returns : goal.returns
returns c =
    let end = bits_end 40 [] (result_line c.args.level (codes_held c.args.codes)) c.args.results true c.loop-place.place 40 (omega arith) in
    left_end _ _ _ (left_as _ _ _ _ _ end c.loop-place.invariant)
