use Rattle.std.proofs.Common.{subst, Bool, IsTrue, nat_lt}
use Rattle.risk_mgmt.proofs.Rising.{rising_by}
use Rattle.risk_mgmt.proofs.selection.is_selected.Goals as goal

pub returns-clause-rising : goal.returns-clause-rising
returns-clause-rising c target most higher_target higher_most low selected =
    let P : Bool → Type 0 = λ b. IsTrue b in
    rising_by (nat_lt c.args.amount c.args.row.now.threshold) c.args.row.now c.requires.row c.args.amount c.args.word target most
    c.requires.below higher_target higher_most low (subst P c.takes.ensures selected)
