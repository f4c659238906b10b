use Rattle.std.proofs.Common.{take}
use Rattle.std.specs.List.{All}
use Rattle.report_text.specs.Told.{IsResult}
use Rattle.report_text.proofs.told.results_fit.Given as goal

abbrev pub invariant-loop-result : goal.invariant-loop-result
invariant-loop-result l = All IsResult (take l.result-index l.results)
