use Rattle.std.proofs.Common.{◌≡◌, length, map}
use Rattle.report_lines.specs.Tables.{text_in}
use Rattle.report_lines.proofs.look_up.word_of_text.Given as goal

abbrev pub invariant-loop-table : goal.invariant-loop-table
invariant-loop-table l = text_in (map (λ w. (w.0.now, w.1.now)) l.table) l.text ≡ text_in (map (λ w. (w.0.now, w.1.now)) l.initial.table) l.text

abbrev pub decreases-loop-table : goal.decreases-loop-table
decreases-loop-table l = length l.table
