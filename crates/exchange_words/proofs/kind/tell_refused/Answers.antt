use Rattle.std.proofs.Common.{◌≡◌, ◌/◌, ◌%◌, ◌==◌, true, false, arith}
use Rattle.std.proofs.lemmas.Bool.Decides.{nat_tests}
use Rattle.exchange_words.proofs.kind.tell_refused.Goals as goal

pub returns-then-flags-eq1-2 : goal.returns-then-flags-eq1-2
returns-then-flags-eq1-2 c =
    let first : (c.args.flags % 2 == 1) ≡ false = grind (arith, nat_tests) in
    let second : (c.args.flags / 2 % 2 == 1) ≡ true = grind (arith, nat_tests) in
    rw (first, second) c.text-then-flags-eq1-2.ensures.told

pub returns-else-flags-eq1-2 : goal.returns-else-flags-eq1-2
returns-else-flags-eq1-2 c =
    let first : (c.args.flags % 2 == 1) ≡ false = grind (arith, nat_tests) in
    let second : (c.args.flags / 2 % 2 == 1) ≡ false = grind (arith, nat_tests) in
    rw (first, second) c.text-else-flags-eq1-2.ensures.told
