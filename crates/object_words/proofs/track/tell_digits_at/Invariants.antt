use Rattle.std.proofs.Common.{◌+◌, ◌-◌}
use Rattle.report_lines.proofs.Telling.{Left}
use Rattle.object_words.specs.Tracks.{half_digits}
use Rattle.object_words.proofs.track.tell_digits_at.Given as goal

abbrev pub invariant-loop-place : goal.invariant-loop-place
invariant-loop-place l = Left l.fn.out l.out (half_digits l.value l.from l.count) (half_digits l.value l.place (l.from + l.count - l.place))
