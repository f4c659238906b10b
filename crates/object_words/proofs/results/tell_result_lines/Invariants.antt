use Rattle.std.proofs.Common.{◌-◌, [], true}
use Rattle.report_lines.specs.Bits.{bits_told_from}
use Rattle.report_lines.proofs.Telling.{Left}
use Rattle.object_words.specs.Results.{result_lines, result_line, codes_held}
use Rattle.object_words.proofs.results.tell_result_lines.Given as goal

abbrev pub invariant-loop-place : goal.invariant-loop-place
invariant-loop-place l = Left l.fn.out l.out (result_lines l.results l.level (codes_held l.codes)) (bits_told_from 40 [] (result_line l.level (codes_held l.codes)) l.results true l.place (40 - l.place))
