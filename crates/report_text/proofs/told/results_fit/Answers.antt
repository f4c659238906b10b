use Rattle.std.proofs.Common.{List, [], ℕ, subst}
use Rattle.std.proofs.lemmas.List.{take_all}
use Rattle.std.proofs.lemmas.List.Elements.{All-more}
use Rattle.std.specs.List.{All}
use Rattle.report_text.specs.Told.{IsResult}
use Rattle.report_text.proofs.told.results_fit.Goals as goal

pub loop-result-preserved : goal.loop-result-preserved
loop-result-preserved c =
    All-more IsResult c.args.results.now c.loop-result.result-index [] c.loop-result-test.true c.loop-result.invariant
    (record { five = c.has_length.ensures; bytes = c.bytes_fit.ensures })

pub returns : goal.returns
returns c =
    subst (λ (results : List (List ℕ)). All IsResult results) (take_all c.loop-result.result-index c.args.results.now c.loop-result-test.false) c.loop-result.invariant
