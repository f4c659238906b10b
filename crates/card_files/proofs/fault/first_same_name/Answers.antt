use Rattle.std.proofs.Common.{◌∙◌, sym}
use Rattle.card_files.proofs.NameLemmas.{repeated, passed_over}
use Rattle.card_files.proofs.fault.first_same_name.Goals as goal

pub returns-then-is_repeated : goal.returns-then-is_repeated
returns-then-is_repeated c =
    sym (repeated c.args.apps.now c.loop-i.i c.index-apps-i.result c.loop-i-test.true c.index-apps-i.is (sym c.is_repeated.ensures ∙ c.if-is_repeated.true))
    ∙ c.loop-i.invariant

pub loop-i-preserved : goal.loop-i-preserved
loop-i-preserved c =
    passed_over c.args.apps.now c.loop-i.i c.index-apps-i.result c.loop-i-test.true c.index-apps-i.is (sym c.is_repeated.ensures ∙ c.if-is_repeated.false)
    ∙ c.loop-i.invariant
