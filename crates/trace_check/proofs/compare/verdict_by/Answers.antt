use Rattle.std.proofs.Common.{◌+◌, List, refl, sym, subst}
use Rattle.trace_check.proofs.Left.{Far, far_found, far_goes}
use Rattle.trace_check.specs.declared.entry.Entry.{Entry}
use Rattle.trace_check.proofs.compare.verdict_by.Goals as goal

pub returns-in-Some : goal.returns-in-Some
returns-in-Some c =
    let far = c.loop-verdict.invariant in
    far_found c.args.kernel.now c.loop-verdict.kernel c.args.entries.now c.loop-verdict.at c.loop-verdict.rest.now far c.in-Some.verdict
    (c.in-Some.ensures.exact far.replies far.stands)

pub loop-verdict-preserved : goal.loop-verdict-preserved
loop-verdict-preserved c =
    let far = c.loop-verdict.invariant in
    subst (λ (entries : List Entry). Far c.args.kernel.now c.exchange.new.kernel c.args.entries.now (c.loop-verdict.at + 2) entries) (sym c.behind_two-rest.ensures)
    (far_goes c.args.kernel.now c.loop-verdict.kernel c.exchange.new.kernel c.args.entries.now c.loop-verdict.at c.loop-verdict.rest.now far
    (c.in-None.ensures.exact far.replies far.stands) (c.in-None.ensures.outset refl) (c.in-None.ensures.fresh refl) (c.in-None.ensures.two refl))
