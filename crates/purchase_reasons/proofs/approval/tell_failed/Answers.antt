use Rattle.std.proofs.Common.{◌≡◌, ◌/◌, ◌%◌, ◌==◌, true, sym, ◌∙◌}
use Rattle.purchase_reasons.proofs.approval.tell_failed.Goals as goal

pub returns-then-has_failed : goal.returns-then-has_failed
returns-then-has_failed c =
    let failed : (c.args.counters.now.flags / 2 % 2 == 1) ≡ true = sym c.has_failed.ensures ∙ c.if-has_failed.true in
    rw failed c.text.ensures.told
