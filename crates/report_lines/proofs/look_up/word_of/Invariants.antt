use Rattle.std.proofs.Common.{◌≡◌, length, map}
use Rattle.report_lines.specs.Tables.{word_in}
use Rattle.report_lines.proofs.look_up.word_of.Given as goal

abbrev pub invariant-loop-table : goal.invariant-loop-table
invariant-loop-table l = word_in (map (λ w. (w.0, w.1.now)) l.table) l.code ≡ word_in (map (λ w. (w.0, w.1.now)) l.initial.table) l.code

abbrev pub decreases-loop-table : goal.decreases-loop-table
decreases-loop-table l = length l.table
