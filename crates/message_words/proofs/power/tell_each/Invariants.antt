use Rattle.std.proofs.Common.{drop}
use Rattle.report_lines.proofs.Telling.{Left}
use Rattle.message_words.specs.Powers.{apps_words_from}
use Rattle.message_words.proofs.power.tell_each.Given as goal

abbrev pub invariant-loop-place : goal.invariant-loop-place
invariant-loop-place l = Left l.fn.out l.out (apps_words_from l.several l.before 0 l.apps) (apps_words_from l.several l.before l.place (drop l.place l.apps))
