use Rattle.std.proofs.Common.{◌≡◌, ℕ, rules, subst, sym}
use Rattle.restrictions.proofs.OwnBits.{restricted_own}
use Rattle.restrictions.proofs.restrict.Goals as goal
use Rattle.restrictions.specs.Laws.{AreRestrictionBits}
use Rattle.restrictions.specs.Restricted.{restricted}

pub returns-clause-own : goal.returns-clause-own
unfolding restricted
returns-clause-own c =
    let given : c.of_conditions.result.0 ≡ restricted c.args.card.now c.args.settings.now c.args.row.now c.args.purchase.now = search rules in
    subst (λ (bits : ℕ). AreRestrictionBits bits) (sym given)
    (restricted_own c.args.card.now c.args.settings.now c.args.row.now c.args.purchase.now)
