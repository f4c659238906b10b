-- The try, and where the block is the PIN's the restored tries behind it.
use Rattle.std.proofs.Common.{sym, ◌∙◌}
use Rattle.card_app.proofs.ComparingLemmas.{cut_try, took_try, took_both, cut_right}
use Rattle.card_app.proofs.comparing.compare.Goals as goal

pub returns-in-Err-clause-cut : goal.returns-in-Err-clause-cut
returns-in-Err-clause-cut g c opening ds plan made on =
    cut_try c.args.with.now c.args.kept.now opening ds plan made on c.decide.new.self.memory c.in-Err.ensures.cut

pub returns-then-not-is_right-clause-takes : goal.returns-then-not-is_right-clause-takes
returns-then-not-is_right-clause-takes g c opening ds plan made on =
    took_try c.args.with.now c.args.kept.now opening ds plan made on c.decide.new.self (sym c.is_right.ensures ∙ c.if-not-is_right.true) c.in-Ok.ensures.takes

pub returns-in-Ok-decide-clause-takes : goal.returns-in-Ok-decide-clause-takes
returns-in-Ok-decide-clause-takes g c opening ds plan made on =
    took_both c.args.with.now c.args.kept.now opening ds plan made on c.decide.new.self c.in-Ok.ensures.takes (sym c.is_right.ensures ∙ c.if-not-is_right.false)
    c.decide-2.new.self c.in-Ok-decide.ensures.takes

pub returns-in-Err-decide-clause-cut : goal.returns-in-Err-decide-clause-cut
returns-in-Err-decide-clause-cut g c opening ds plan made on =
    cut_right c.args.with.now c.args.kept.now opening ds plan made on c.decide.new.self c.in-Ok.ensures.takes (sym c.is_right.ensures ∙ c.if-not-is_right.false)
    c.decide-2.new.self.memory c.in-Ok.ensures.stays.losses c.in-Err-decide.ensures.cut
