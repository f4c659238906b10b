use Rattle.std.proofs.Common.{ℕ, ◌+◌, ◌*◌, ◌/◌, ◌%◌, ◌==◌, subst}
use Rattle.std.specs.Prelude.{count_ones}
use Rattle.std.proofs.lemmas.Bool.{cond-false, ne_eqb}
use Rattle.card_keys.specs.Parity.{HasOddParity}
use Rattle.card_keys.proofs.OddBytes.{odd_parity_is_odd}
use Rattle.card_keys.proofs.parity.with_odd_parity.Goals as goal

pub returns-else-upper-eq1-clause-odd : goal.returns-else-upper-eq1-clause-odd
returns-else-upper-eq1-clause-odd c =
    let upper : ℕ = c.args.byte / 2 * 2 in
    subst HasOddParity (cond-false (count_ones upper % 2 == 1) upper (upper + 1) (ne_eqb (count_ones upper % 2) 1 c.if-upper-eq1.false)) (odd_parity_is_odd c.args.byte c.ranges.byte.fits)
