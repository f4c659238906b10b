use Rattle.std.proofs.Common.{sym, ◌∙◌}
use Rattle.emv_top.proofs.WordLemmas.{parsed_count, unparsed}
use Rattle.emv_top.proofs.words.count_in.Goals as goal

pub returns-then-count-le10000-clause-exact : goal.returns-then-count-le10000-clause-exact
returns-then-count-le10000-clause-exact c =
    parsed_count c.args.word.now (sym c.is_plain.ensures ∙ c.if-not-is_plain.false) c.in-Ok.count c.in-Ok.ensures.value.0 c.if-count-ge1.true c.if-count-le10000.true

pub returns-in-Err-clause-exact : goal.returns-in-Err-clause-exact
returns-in-Err-clause-exact c = unparsed c.args.word.now (sym c.is_plain.ensures ∙ c.if-not-is_plain.false) _ c.in-Err.field-0 c.in-Err.ensures.value.0
