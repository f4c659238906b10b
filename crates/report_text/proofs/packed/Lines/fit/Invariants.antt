use Rattle.std.proofs.Common.{◌≡◌, ◌++◌, List, length}
use Rattle.std.specs.List.{All}
use Rattle.report_text.specs.Told.{HasLineBytes}
use Rattle.report_text.specs.declared.line.Line.{Line}
use Rattle.report_text.proofs.packed.Lines.fit.Given as goal

abbrev pub invariant-loop-line : goal.invariant-loop-line
invariant-loop-line l = (before : List Line) × (before ++ l.left ≡ l.self.items) × All HasLineBytes before

abbrev pub decreases-loop-line : goal.decreases-loop-line
decreases-loop-line l = length l.left
